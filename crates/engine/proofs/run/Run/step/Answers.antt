use Rattle.std.proofs.Common.{◌+◌, ◌≤◌, length, refl, ap, subst}
use Rattle.table.proofs.Potential.{sound-plans}
use Rattle.engine.specs.Tells.{laid}
use Rattle.theory.specs.Rule.{Sheet, Fits}
use Rattle.turns.specs.Holds.{Holds, Settled}
use Rattle.turns.specs.Ticks.{Ticked}
use Rattle.engine.proofs.Lawful.{goes, in-progress, step_right, settled-all, settled-less}
use Rattle.engine.proofs.Records.{beyond-windows}
use Rattle.engine.proofs.run.Run.step.Goals as goal

pub returns-clause-stays : goal.returns-clause-stays
returns-clause-stays g c =
    let run = c.args.self.now in
    let l = laid run in
    let k = g.V.Kind.meaning in
    let says = (g.S.Source.meaning c.args.source.now).says in
    let planned = sound-plans run.table.now.schedule run.table.now.checked in
    let old = run.cells.now in
    let new = c.make_tick.new.cells in
    let t = c.in_ok-progress.progress.made in
    let v = c.in-Some.reading in
    let made : Ticked l k says old new t v = subst (λ x. Ticked x k says old new t v) c.view-view.ensures c.in-Some.ensures in
    record { table = refl; room = c.make_tick.auto.cells; beyond = beyond-windows l planned old new made.beyond }

pub returns-clause-law : goal.returns-clause-law
returns-clause-law g c past told =
    let run = c.args.self.now in
    let l = laid run in
    let k = g.V.Kind.meaning in
    let says = (g.S.Source.meaning c.args.source.now).says in
    let planned = sound-plans run.table.now.schedule run.table.now.checked in
    let p = c.in_ok-progress.progress in
    let on = goes k says run past p (in-progress _ _ p c.in_ok-progress.ensures) told in
    let seen_as = c.view-view.ensures in
    let old = run.cells.now in
    let new = c.make_tick.new.cells in
    let t = p.made in
    let s = p.settled in
    let v = c.in-Some.reading in
    let made : Ticked l k says old new t v = subst (λ x. Ticked x k says old new t v) seen_as c.in-Some.ensures in
    let done : l.stages ≤ s = subst (λ n. n ≤ s) (ap (λ x. x.stages) seen_as) c.if-progress-view.false in
    let before : (σ : Sheet g.row.V.Denot) → Fits l.rows k says p.horizon σ → Settled l old σ l.stages = λ σ fits. settled-less l planned old σ s l.stages done (on.settled σ fits) in
    let after : (σ : Sheet g.row.V.Denot) → Fits l.rows k says p.horizon σ → Holds l new σ l.stages (t + 1 + l.lag) = λ σ fits. made.holds p.horizon σ fits (before σ fits) (on.holds σ fits) in (
      step_right k says l old p past on (length old) done c.if-tick-progress.false v (λ σ fits. made.reads p.horizon σ fits (before σ fits) (on.holds σ fits)),
      record {
        horizon = on.horizon;
        left = on.left;
        made = ap (λ n. n + 1) on.made;
        low = on.low;
        done = λ pos. done;
        settled = λ σ fits. settled-all l planned new σ s (after σ fits).settled;
        holds = λ σ fits pos. after σ fits;
      },
    )
