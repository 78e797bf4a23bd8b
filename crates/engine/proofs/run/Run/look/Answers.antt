use Rattle.std.proofs.Common.{◌+◌, ◌<◌, ◌≤◌, length, ap, subst, arith, rules}
use Rattle.table.proofs.Potential.{sound-plans}
use Rattle.engine.specs.Tells.{laid}
use Rattle.table.specs.Layout.{place_at}
use Rattle.table.specs.Views.{seen}
use Rattle.turns.specs.Holds.{At, slot}
use Rattle.turns.proofs.Slots.{slot_fits}
use Rattle.turns.proofs.Agree.{one_at}
use Rattle.engine.proofs.Lawful.{goes, in-progress, enough, look-right, absent-right, looked-tells}
use Rattle.engine.proofs.run.Run.look.Goals as goal
use Rattle.engine.proofs.run.Run.look.Goals.{then-progress-eq0-via-then-progress-eq0, then-progress-eq0-via-else-progress-eq0+then-due-turns, then-progress-eq0-via-else-progress-eq0+else-due-turns+then-turns-due}

pub overflow_add-due : goal.overflow_add-due
overflow_add-due g c =
    let view = c.view-view.result in
    let p = view.planned in
    let a = p.short in
    let b = p.delayed c.args.row c.if-row-view.false in
    let far = c.in_ok-progress.progress.low in
    let d = c.if-tick-progress.false in
    search rules

pub returns-then-progress-eq0-clause-law : goal.returns-then-progress-eq0-clause-law
returns-then-progress-eq0-clause-law g c says past told =
    let run = c.args.self.now in
    let l = laid run in
    let k = g.V.Kind.meaning in
    let planned = sound-plans run.table.now.schedule run.table.now.checked in
    let p = c.in_ok-progress.progress in
    let on = goes k says run past p (in-progress _ _ p c.in_ok-progress.ensures) told in
    let seen_as = c.view-view.ensures in
    let r = c.args.row in
    let t = c.args.tick in
    let n = p.made in
    let is : r < length l.rows = subst (λ x. r < length x.rows) seen_as c.if-row-view.false in
    let out : 0 < n → t + (place_at l r).delay < n + l.lag → n + l.lag ≤ t + (place_at l r).delay + (place_at l r).depth → ⊥ =
    subst (λ x. 0 < n → t + (place_at x r).delay < n + x.lag → n + x.lag ≤ t + (place_at x r).delay + (place_at x r).depth → ⊥) seen_as
    (λ some made kept. elim c.then-progress-eq0.branch [
      | then-progress-eq0-via-then-progress-eq0 w ↦ let a = w.if-progress-eq0.true in omega arith
      | then-progress-eq0-via-else-progress-eq0+then-due-turns w ↦ let a = w.if-due-turns.true in omega arith
      | then-progress-eq0-via-else-progress-eq0+else-due-turns+then-turns-due w ↦ let a = w.if-turns-due.true in omega arith
    ]) in (
      absent-right k says l run.cells.now p past on (length run.cells.now) r t planned is c.if-tick-progress.false out,
      looked-tells k says run past r t _ told,
    )

pub overflow_add-place : goal.overflow_add-place
overflow_add-place g c =
    let view = c.view-view.result in
    let p = view.planned in
    let f = slot_fits (seen view) p c.args.row c.if-row-view.false c.args.tick in
    let d = p.deep c.args.row c.if-row-view.false in
    let e = c.slot.ensures.0 d in
    let a = enough c.args.self.now _ (in-progress _ _ _ c.in_ok-progress.ensures) in
    search rules

pub cell-requires : goal.cell-requires
cell-requires g c =
    let view = c.view-view.result in
    let p = view.planned in
    let f = slot_fits (seen view) p c.args.row c.if-row-view.false c.args.tick in
    let d = p.deep c.args.row c.if-row-view.false in
    let e = c.slot.ensures.0 d in
    let size = ap (λ x. x.size) c.view-view.ensures in
    let a = enough c.args.self.now _ (in-progress _ _ _ c.in_ok-progress.ensures) in
    omega arith

pub returns-clause-law : goal.returns-clause-law
returns-clause-law g c says past told =
    let run = c.args.self.now in
    let l = laid run in
    let k = g.V.Kind.meaning in
    let planned = sound-plans run.table.now.schedule run.table.now.checked in
    let p = c.in_ok-progress.progress in
    let on = goes k says run past p (in-progress _ _ p c.in_ok-progress.ensures) told in
    let view = c.view-view.result in
    let seen_as = c.view-view.ensures in
    let r = c.args.row in
    let t = c.args.tick in
    let n = p.made in
    let cells = run.cells.now in
    let some : 0 < n = let a = c.if-progress-eq0.false in omega arith in
    let deep = view.planned.deep r c.if-row-view.false in
    let is : r < length l.rows = subst (λ x. r < length x.rows) seen_as c.if-row-view.false in
    let made : t + (place_at l r).delay < n + l.lag = subst (λ x. t + (place_at x r).delay < n + x.lag) seen_as c.if-due-turns.false in
    let near : n + view.lag ≤ t + (place_at (seen view) r).delay + (place_at (seen view) r).depth = let a = c.if-turns-due.false in let b = c.if-due-turns.false in omega arith in
    let kept : n + l.lag ≤ t + (place_at l r).delay + (place_at l r).depth = subst (λ x. n + x.lag ≤ t + (place_at x r).delay + (place_at x r).depth) seen_as near in
    let v = c.cell.result in
    let here : At cells (slot (place_at l r) t) v =
    subst (λ x. At cells (slot (place_at x r) t) v) seen_as
    (subst (λ i. At cells ((place_at (seen view) r).start + i) v) (c.slot.ensures.0 deep) c.cell.ensures) in (
      look-right k says l cells p past on (length cells) r t planned is c.if-tick-progress.false v some made kept
          (λ σ fits. one_at here ((on.holds σ fits some).windows r is (planned.staged r is) t made kept)),
      looked-tells k says run past r t _ told,
    )
