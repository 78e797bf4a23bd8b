use Rattle.std.proofs.Common.{◌≡◌, ◌+◌, ◌-◌, ◌<◌, length, ap, subst, arith}
use Rattle.engine.specs.Tells.{laid}
use Rattle.turns.specs.Holds.{Settled}
use Rattle.turns.specs.Ticks.{Settles}
use Rattle.engine.proofs.Lawful.{goes, in-progress, settle-right}
use Rattle.engine.proofs.run.Run.settle.Goals as goal

pub returns-clause-law : goal.returns-clause-law
returns-clause-law g c past told =
    let run = c.args.self.now in
    let l = laid run in
    let k = g.V.Kind.meaning in
    let says = (g.S.Source.meaning c.args.source.now).says in
    let p = c.in_ok-progress.progress in
    let on = goes k says run past p (in-progress _ _ p c.in_ok-progress.ensures) told in
    let seen_as = c.view-view.ensures in
    let old = run.cells.now in
    let new = c.settle_stage.new.cells in
    let s = p.settled in
    let stages : c.view-view.result.stages ≡ l.stages = ap (λ x. x.stages) seen_as in
    let more : s < l.stages = let a = c.if-progress-view.false in omega arith in
    let settles : Settles l k says old new (s + 1) p.horizon = subst (λ x. Settles x k says old new (s + 1) p.horizon) seen_as c.in-Some.ensures in (
      settle-right k says l old p past on (length old) (c.view-view.result.stages - (s + 1)) (omega arith),
      record {
        horizon = on.horizon;
        left = let e = on.left in omega arith;
        made = on.made;
        low = omega arith;
        done = λ pos. absurd (let d = on.done pos in omega arith);
        settled = λ σ fits. let low : s ≡ s + 1 - 1 = omega arith in settles.settled σ fits (subst (λ n. Settled l old σ n) low (on.settled σ fits));
        holds = λ σ fits pos. absurd (let d = on.done pos in omega arith);
      },
    )
