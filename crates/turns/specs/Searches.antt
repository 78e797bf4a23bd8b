-- The search of the `asa` rows of a stage, tick by tick.
use Rattle.std.specs.Prelude.{◌≡◌, ℕ, ◌+◌, ◌-◌, ◌<◌, ◌≤◌, Bool, true, false, cond, ◌&&◌, List, length, Some, None, Option, ◌==◌, ◌≢◌, slice_index_or}
use Rattle.reading.specs.declared.faults.FaultNumber.TheVariants.{Unreached, WrongKind}
use Rattle.reading.specs.Faults.{Reading}
use Rattle.reading.specs.declared.rows.Row.TheVariants.{Asa}
use Rattle.kind.specs.Kinds.{Meaning}
use Rattle.theory.specs.Says.{Says}
use Rattle.theory.specs.Rule.{Sheet, Fits, row_at, is, after, told_as, born}
use Rattle.table.specs.Layout.{Layout, place_at, position_at, is_asa}
use Rattle.turns.specs.Holds.{At, Holds}

-- Whether row r is an `asa` row of the stage.
abbrev pub searching : Layout → ℕ → ℕ → Bool
searching l stage r = is_asa (row_at l.rows r) && (place_at l r).stage == stage

-- What `x asa y` in row r reads if its search ends at tick t.
abbrev pub found_at : {V : Type 0} → Meaning V → ℕ → ℕ → Reading V → Reading V → Reading V
found_at k r t x y = after y (λ w. cond (told_as true (k.told w)) x (born WrongKind r t))

-- Whether the search of `x asa y` in row r ends at tick t, and with which reading.
abbrev pub Ends : {V : Type 0} → Meaning V → Sheet V → ℕ → ℕ → ℕ → ℕ → Option (Reading V) → Type 0
Ends k σ r x y t None = is k false (σ y t) ≡ true
Ends k σ r x y t (Some v) = (is k false (σ y t) ≡ false) × (v ≡ found_at k r t (σ x t) (σ y t))

-- The search of row r over the first n ticks. Where it has ended the row's cell has its reading;
-- where it is pending the cell has fault 1, and the right side was false at each of these ticks.
abbrev pub Sought : {V : Type 0} → Layout → Meaning V → List (Reading V) → Sheet V → List Bool → ℕ → ℕ → Type 0
Sought l k cells σ pending r n =
    (slice_index_or pending r false ≡ false → (u : ℕ) → At cells (place_at l r).settled (σ r u)) ×
    (slice_index_or pending r false ≡ true → At cells (place_at l r).settled (born Unreached r 0) ×
    ((x y : ℕ) → row_at l.rows r ≡ Asa x y → (u : ℕ) → u < n → is k false (σ y u) ≡ true))

-- The searches of the first i rows of the order have begun: they wait, with fault 1 in their cells.
abbrev pub Begun : {V : Type 0} → Layout → List (Reading V) → List Bool → ℕ → ℕ → Type 0
Begun l cells pending stage i =
    (r : ℕ) → r < length l.rows → searching l stage r ≡ true → position_at l r < i →
    (slice_index_or pending r false ≡ true) × At cells (place_at l r).settled (born Unreached r 0)

-- The `asa` rows of the stage have been sought over n ticks, and the first i rows of the order over one more.
pub record Seeking {V : Type 0} (l : Layout) (k : Meaning V) (cells : List (Reading V)) (σ : Sheet V) (pending : List Bool) (stage i n : ℕ) : Type 0 where
  pub made : (r : ℕ) → r < length l.rows → searching l stage r ≡ true → position_at l r < i → Sought l k cells σ pending r (n + 1)
  pub coming : (r : ℕ) → r < length l.rows → searching l stage r ≡ true → i ≤ position_at l r → Sought l k cells σ pending r n

-- One row is sought over tick t, in every sheet that fits a horizon past it; what the cells hold of other rows stays.
abbrev pub SoughtRow : {V : Type 0} → Layout → Meaning V → ℕ → ℕ → ℕ → List (Reading V) → List Bool → List (Reading V) → List Bool → Type 0
SoughtRow {V} l k stage t r old pending new pending' =
    (says : Says V) (H : ℕ) (σ : Sheet V) → Fits l.rows k says H σ → t < H → Holds l old σ (stage - 1) (t + l.lag + 1) →
    Holds l new σ (stage - 1) (t + l.lag + 1) ×
    (searching l stage r ≡ true → Sought l k old σ pending r t → Sought l k new σ pending' r (t + 1)) ×
    ((q n : ℕ) → q < length l.rows → (q ≢ r) → searching l stage q ≡ true → Sought l k old σ pending q n → Sought l k new σ pending' q n)

-- All rows of the stage are sought over tick t.
abbrev pub SoughtAll : {V : Type 0} → Layout → Meaning V → ℕ → ℕ → List (Reading V) → List Bool → List (Reading V) → List Bool → Type 0
SoughtAll {V} l k stage t old pending new pending' =
    (says : Says V) (H : ℕ) (σ : Sheet V) → Fits l.rows k says H σ → t < H → Holds l old σ (stage - 1) (t + l.lag + 1) →
    Seeking l k old σ pending stage 0 t → Holds l new σ (stage - 1) (t + l.lag + 1) × Seeking l k new σ pending' stage 0 (t + 1)
