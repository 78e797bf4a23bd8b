-- The cells in which `asa` rows keep their readings.
use Rattle.std.specs.Prelude.{◌≡◌, ℕ, ◌<◌, ◌≤◌, cond, ◌&&◌, List, length, Some, None, Option, nat_lt}
use Rattle.reading.specs.Faults.{Reading}
use Rattle.kind.specs.Kinds.{Meaning}
use Rattle.theory.specs.Says.{Says}
use Rattle.theory.specs.Rule.{Sheet, Fits, row_at}
use Rattle.table.specs.Layout.{Layout, place_at, is_asa}
use Rattle.turns.specs.Holds.{At}
use Rattle.engine.specs.Law.{Past, horizon_of, settles_of}

-- The cell of a row, if it is an `asa` row: it follows from the table alone.
abbrev pub cell_of : Layout → ℕ → Option ℕ
cell_of l r = cond (nat_lt r (length l.rows) && is_asa (row_at l.rows r)) (Some (place_at l r).settled) None

-- The cell is one of those that the table takes, and no other row's.
abbrev pub Own : Layout → ℕ → Option ℕ → Type 0
Own l r None = Unit {0}
Own l r (Some i) = (i < l.size) × ((q : ℕ) → cell_of l q ≡ Some i → q ≡ r)

-- After a record of calls, from the settle of its stage to the next accepted open, the cell has the row's reading in the sheet that fits the horizon in force.
abbrev pub Keeps : {V : Type 0} → Layout → Meaning V → Says V → List (Reading V) → Past V → ℕ → Option ℕ → Type 0
Keeps l k says cells past r None = Unit {0}
Keeps {V} l k says cells past r (Some i) =
    (H : ℕ) (σ : Sheet V) → horizon_of past ≡ Some H → Fits l.rows k says H σ → (place_at l r).stage ≤ settles_of past → (t : ℕ) → At cells i (σ r t)
