-- What the cells hold of a sheet.
use Rattle.std.specs.Prelude.{◌≡◌, ℕ, ◌+◌, ◌%◌, ◌<◌, ◌≤◌, true, List, length, slice_index_or}
use Rattle.reading.specs.Faults.{Reading}
use Rattle.kind.specs.Kinds.{Meaning}
use Rattle.theory.specs.Says.{Says}
use Rattle.theory.specs.Rule.{Sheet, Fits, row_at}
use Rattle.table.specs.declared.place.Place.{Place}
use Rattle.table.specs.Layout.{Layout, place_at, position_at, is_asa}

-- The cell i holds x.
abbrev pub At : {A : Type 0} → List A → ℕ → A → Type 0
At {A} cells i x = (d : A) → slice_index_or cells i d ≡ x

-- The cell of tick t in a row's window.
abbrev pub slot : Place → ℕ → ℕ
slot p t = p.start + t % p.depth

-- After n turns the window holds each reading that is made and not yet overwritten.
abbrev pub Window : {A : Type 0} → Place → List A → (ℕ → A) → ℕ → Type 0
Window p cells line n = (t : ℕ) → t + p.delay < n → n ≤ t + p.delay + p.depth → At cells (slot p t) (line t)

-- The `asa` rows up to stage s have their reading in their own cells.
abbrev pub Settled : {V : Type 0} → Layout → List (Reading V) → Sheet V → ℕ → Type 0
Settled l cells σ s =
    (r : ℕ) → r < length l.rows → is_asa (row_at l.rows r) ≡ true → (place_at l r).stage ≤ s →
    (t : ℕ) → At cells (place_at l r).settled (σ r t)

-- After n turns over the rows up to stage s, the cells hold the sheet.
pub record Holds {V : Type 0} (l : Layout) (cells : List (Reading V)) (σ : Sheet V) (s n : ℕ) : Type 0 where
  pub windows : (r : ℕ) → r < length l.rows → (place_at l r).stage ≤ s → Window (place_at l r) cells (σ r) n
  pub settled : Settled l cells σ s

-- The same within turn j, when the first k rows of the order have been made.
pub record Midst {V : Type 0} (l : Layout) (position : ℕ → ℕ) (cells : List (Reading V)) (σ : Sheet V) (s j k : ℕ) : Type 0 where
  pub made : (r : ℕ) → r < length l.rows → (place_at l r).stage ≤ s → position r < k → Window (place_at l r) cells (σ r) (j + 1)
  pub coming : (r : ℕ) → r < length l.rows → (place_at l r).stage ≤ s → k ≤ position r → Window (place_at l r) cells (σ r) j
  pub settled : Settled l cells σ s

-- No cell from the end of the windows on has changed.
abbrev pub Kept : {A : Type 0} → Layout → List A → List A → Type 0
Kept {A} l old new = (i : ℕ) → l.windows ≤ i → (d : A) → slice_index_or new i d ≡ slice_index_or old i d

-- Row r is made in turn j over the rows up to stage s: within the turn, the cells hold each sheet that fits one row further.
abbrev pub RowMade : {V : Type 0} → Layout → Meaning V → Says V → ℕ → ℕ → ℕ → List (Reading V) → List (Reading V) → Type 0
RowMade {V} l k says s j r old new =
    (H : ℕ) (σ : Sheet V) → Fits l.rows k says H σ → Midst l (position_at l) old σ s j (position_at l r) → Midst l (position_at l) new σ s j (position_at l r + 1)

-- Turn j is made over the rows up to stage s: the cells hold each sheet that fits one turn further.
abbrev pub TurnMade : {V : Type 0} → Layout → Meaning V → Says V → ℕ → ℕ → List (Reading V) → List (Reading V) → Type 0
TurnMade {V} l k says s j old new =
    (H : ℕ) (σ : Sheet V) → Fits l.rows k says H σ → Holds l old σ s j → Holds l new σ s (j + 1)

-- The first n turns are made over the rows up to stage s.
abbrev pub TurnsMade : {V : Type 0} → Layout → Meaning V → Says V → ℕ → ℕ → List (Reading V) → List (Reading V) → Type 0
TurnsMade {V} l k says s n old new =
    (H : ℕ) (σ : Sheet V) → Fits l.rows k says H σ → Settled l old σ s → Holds l new σ s n
