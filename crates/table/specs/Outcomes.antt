-- What the check of rows answers.
use Rattle.std.specs.Prelude.{ℕ, ◌<◌, ◌≤◌, ◌⊎◌, List, length, Ok, Err, Result}
use Rattle.reading.specs.declared.rows.Row.{Row}
use Rattle.graph.specs.declared.plans.Defect.{Defect}
use Rattle.graph.specs.declared.plans.Defect.TheVariants.{Malformed, Ring}
use Rattle.graph.specs.Labels.{SomeOtherRing, Outside}
use Rattle.table.specs.declared.table.Table.{Table}
use Rattle.table.specs.Edges.{table_edges}
use Rattle.table.specs.Tables.{Checked}

-- What is to be answered of any rows: their table, or that some ring is not negative, or that they are too many, that the result is none of them,
-- or that one reads a row that is not there.
abbrev pub JudgedRows : List Row → ℕ → Result Table Defect → Type 0
JudgedRows rows result (Ok t) = Checked rows result t.schedule
JudgedRows rows result (Err Ring) = SomeOtherRing (table_edges rows)
JudgedRows rows result (Err Malformed) = (64 < length rows) ⊎ ((length rows ≤ result) ⊎ Outside (length rows) (table_edges rows))
