-- The edges of a table of rows: from each row to each row that it reads.
use Rattle.std.specs.Prelude.{ℕ, zero, suc, ◌<◌, List, [], ◌++◌, map, length}
use Rattle.std.specs.List.{AllByRecursion}
use Rattle.reading.specs.declared.rows.Row.{Row}
use Rattle.theory.specs.Rule.{row_at}
use Rattle.theory.specs.Potential.{edges, level, ahead, back, beyond}
use Rattle.theory.specs.Potential as theory
use Rattle.graph.specs.declared.edges.Edge.{Edge}
use Rattle.graph.specs.declared.edges.Label.{Label}
use Rattle.graph.specs.declared.edges.Label.TheVariants.{Next, Same, Before, Unbounded}

-- The label as the graph has it.
abbrev pub labelled : theory.Label → Label
labelled level = Same
labelled ahead = Next
labelled back = Before
labelled beyond = Unbounded

abbrev pub edge_of : ℕ → theory.Label × ℕ → Edge
edge_of r e = record { from = r; to = e.1; label = labelled e.0 }

-- The edges of one row, which has the number r.
abbrev pub row_edges : ℕ → Row → List Edge
row_edges r row = map (edge_of r) (edges row)

-- The edges of the first n rows.
abbrev pub first_edges : List Row → ℕ → List Edge
first_edges rows zero = []
first_edges rows (suc n) = first_edges rows n ++ row_edges n (row_at rows n)

abbrev pub table_edges : List Row → List Edge
table_edges rows = first_edges rows (length rows)

-- Every row that is read stands in the table.
abbrev pub Closed : List Row → Type 0
Closed rows = (r : ℕ) → r < length rows → AllByRecursion (λ e. e.1 < length rows) (edges (row_at rows r))
