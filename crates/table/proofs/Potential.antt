-- The ranks and stages of a checked table are a potential of its rows.
use Rattle.std.proofs.Common.{ℕ, ◌+◌, ◌*◌, ◌^◌, ◌<◌, ◌≤◌, List, length, get_or, sym, subst, arith}
use mathlib.Core.Logic.{∥∥₁_elim}
use native.Mathlib.Bridge.{le_prop}
use Rattle.std.specs.List.{ContainsAt as Has, AllByRecursion, AllByRecursion-prop}
use Rattle.std.proofs.ByRecursion.{all-has, All-weaker, all_has_itself}
use Rattle.reading.specs.declared.rows.Row.{Row}
use Rattle.theory.specs.Rule.{row_at}
use Rattle.theory.specs.Potential.{Label, level, ahead, back, beyond, edges, Down, Potential}
use Rattle.theory.proofs.Determined.{determines}
use Rattle.table.specs.declared.schedule.Schedule.{Schedule}
use Rattle.table.specs.Layout.{planned_prop, Planned}
use Rattle.table.specs.Tables.{Checked, Sound, rows_of, layout}
use Rattle.table.proofs.Loops.{table-plans}
use Rattle.table.proofs.Props.{down-prop}
use Rattle.graph.specs.Labels.{plus, minus, infinite}
use Rattle.table.specs.Edges.{labelled, edge_of}
use Rattle.table.specs.Laws.{DeterminedBy}
use Rattle.table.proofs.Edges.{has-edge}

down : (height stage : ℕ → ℕ) (a : ℕ) (l : Label) (x : ℕ) → stage x + infinite (labelled l) ≤ stage a
    → height x + 65 * plus (labelled l) < height a + 65 * minus (labelled l) → Down 65 height stage a l x
down height stage a level x s h = (omega arith, omega arith)
down height stage a ahead x s h = (omega arith, omega arith)
down height stage a back x s h = (omega arith, omega arith)
down height stage a beyond x s h = omega arith

module _ (t : Schedule) where
  abbrev height : ℕ → ℕ
  height r = get_or t.plan.rank r 0

  abbrev stage : ℕ → ℕ
  stage r = get_or t.plan.stage r 0

  abbrev Falls : ℕ → Type 0
  Falls r = AllByRecursion (λ e. (e.1 < length (rows_of t)) × Down 65 height stage r e.0 e.1) (edges (row_at (rows_of t) r))

  falls : Sound t → (r : ℕ) → r < length (rows_of t) → Falls r
  falls c r h =
      let row = row_at (rows_of t) r in
      All-weaker (Has (edges row)) _
      (λ e k. (
        all-has (λ e. e.1 < length (rows_of t)) (edges row) e (c.closed r h) k,
        down height stage r e.0 e.1 (c.plan_is.stages_fall (edge_of r e) (has-edge (rows_of t) r e h k))
            (c.plan_is.checked.ranked (edge_of r e) (has-edge (rows_of t) r e h k)),
      ))
      (edges row) (all_has_itself (edges row))

  falls-prop : (r : ℕ) → IsProp (Falls r)
  falls-prop r =
      AllByRecursion-prop (λ e. (e.1 < length (rows_of t)) × Down 65 height stage r e.0 e.1)
      (λ e p q i. (le_prop p.0 q.0 i, down-prop 65 height stage r e.0 e.1 p.1 q.1 i)) (edges (row_at (rows_of t) r))

  pub potential : ∥ Sound t ∥₁ → Potential (rows_of t)
  potential s =
      record {
        tick = 65;
        height = height;
        stage = stage;
        top = 2 ^ 30;
        under = λ r h. ∥∥₁_elim s le_prop (λ c. c.plan_is.checked.low r);
        down = λ r h. ∥∥₁_elim s (falls-prop r) (λ c. falls c r h);
      }

  pub sound-plans : ∥ Sound t ∥₁ → Planned (layout t)
  sound-plans s = ∥∥₁_elim s (planned_prop (layout t)) (table-plans (rows_of t) t.result t)

  pub sound-determines : (V : Type 0) → ∥ Sound t ∥₁ → DeterminedBy V t
  sound-determines V s = determines V (rows_of t) (potential s)

pub sound : (rows : List Row) (result : ℕ) (t : Schedule) → Checked rows result t → Sound t
sound rows result t c =
    subst (λ (r : List Row). Checked r t.result t) (sym c.rows_are) (subst (λ (n : ℕ). Checked rows n t) (sym c.result_is) c)
