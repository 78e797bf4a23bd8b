-- The theorems about checked tables.
use Rattle.std.specs.Prelude.{ℕ, List}
use Rattle.reading.specs.declared.rows.Row.{Row}
use Rattle.kind.specs.Kinds.{Meaning}
use Rattle.theory.specs.Says.{Says}
use Rattle.theory.specs.Determined.{Determined}
use Rattle.table.specs.declared.schedule.Schedule.{Schedule}
use Rattle.table.specs.Layout.{Planned}
use Rattle.table.specs.Tables.{Checked, rows_of, layout}

-- For every kind of the values V and every source: exactly one sheet fits each horizon, and the least solution has exactly the values of the sheets, which last.
abbrev pub DeterminedRows : Type 0 → List Row → Type 0
DeterminedRows V rows = (k : Meaning V) (source : Says V) → Determined rows k source

abbrev pub DeterminedBy : Type 0 → Schedule → Type 0
DeterminedBy V t = DeterminedRows V (rows_of t)

-- A loop over a checked table finds each reading where it looks for it.
abbrev pub TablePlans : Type 0
TablePlans = (rows : List Row) (result : ℕ) (t : Schedule) → Checked rows result t → Planned (layout t)
