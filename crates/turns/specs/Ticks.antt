-- What it is to make a tick, and to settle a stage, over the cells of a table.
use Rattle.std.specs.Prelude.{◌≡◌, ℕ, ◌+◌, ◌-◌, ◌<◌, ◌≤◌, List, length, Some, None, Option, slice_index_or}
use Rattle.reading.specs.Faults.{Reading}
use Rattle.kind.specs.Kinds.{Meaning}
use Rattle.theory.specs.Says.{Says}
use Rattle.theory.specs.Rule.{Sheet, Fits}
use Rattle.table.specs.Layout.{Layout}
use Rattle.turns.specs.Holds.{Holds, Settled, Kept}

-- The most ticks of a run.
abbrev pub most : ℕ
most = 100000

-- Tick t is made: the cells hold one turn more of every sheet that they held, and the answer is that sheet's reading of `result`.
pub record Ticked {V : Type 0} (l : Layout) (k : Meaning V) (says : Says V) (old new : List (Reading V)) (t : ℕ) (v : Reading V) : Type 0 where
  pub holds : (H : ℕ) (σ : Sheet V) → Fits l.rows k says H σ → Settled l old σ l.stages →
      (0 < t → Holds l old σ l.stages (t + l.lag)) → Holds l new σ l.stages (t + 1 + l.lag)
  pub reads : (H : ℕ) (σ : Sheet V) → Fits l.rows k says H σ → Settled l old σ l.stages →
      (0 < t → Holds l old σ l.stages (t + l.lag)) → v ≡ σ l.result t
  pub beyond : Kept l old new

-- A tick is made where there are cells enough and the tick is not too late; else the cells are as they were.
abbrev pub Tried : {V : Type 0} → Layout → Meaning V → Says V → List (Reading V) → List (Reading V) → ℕ → Option (Reading V) → Type 0
Tried l k says old new t None = (new ≡ old) × (l.size ≤ length old → t < most → ⊥)
Tried l k says old new t (Some v) = Ticked l k says old new t v

-- No cell past those of the table has changed.
abbrev pub Untouched : {A : Type 0} → Layout → List A → List A → Type 0
Untouched {A} l old new = (i : ℕ) → l.size ≤ i → (d : A) → slice_index_or new i d ≡ slice_index_or old i d

-- The stage is settled: what was settled of lower stages in every sheet that fits H, is settled of this one too.
pub record Settles {V : Type 0} (l : Layout) (k : Meaning V) (says : Says V) (old new : List (Reading V)) (stage H : ℕ) : Type 0 where
  pub settled : (σ : Sheet V) → Fits l.rows k says H σ → Settled l old σ (stage - 1) → Settled l new σ stage
  pub beyond : Untouched l old new

-- A stage is settled where there are cells enough, the horizon is not too far, and there is such a stage to settle; else the cells are as they were.
abbrev pub TriedStage : {V : Type 0} → Layout → Meaning V → Says V → List (Reading V) → List (Reading V) → ℕ → ℕ → Option Unit → Type 0
TriedStage l k says old new stage H (Some done) = Settles l k says old new stage H
TriedStage l k says old new stage H None = (new ≡ old) × (l.size ≤ length old → H ≤ most → 0 < stage → ⊥)
