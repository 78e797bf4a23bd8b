use Rattle.std.proofs.Common.{length, refl, arith}
use Rattle.engine.specs.Tells.{laid}
use Rattle.engine.proofs.Lawful.{goes, in-progress, restart-right}
use Rattle.engine.proofs.run.Run.restart.Goals as goal

pub returns-clause-law : goal.returns-clause-law
returns-clause-law g c says past told =
    let run = c.args.self.now in
    let l = laid run in
    let k = g.V.Kind.meaning in
    let p = c.in_ok-progress.progress in
    let on = goes k says run past p (in-progress _ _ p c.in_ok-progress.ensures) told in (
      restart-right k says l run.cells.now p past on (length run.cells.now),
      record {
        horizon = on.horizon;
        left = on.left;
        made = refl;
        low = on.low;
        done = λ pos. absurd (omega arith);
        settled = on.settled;
        holds = λ σ fits pos. absurd (omega arith);
      },
    )
