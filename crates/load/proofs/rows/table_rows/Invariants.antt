use Rattle.std.proofs.Common.{◌≡◌, map, length, take}
use Rattle.load.specs.Rows.{node_row}
use Rattle.load.proofs.rows.table_rows.Given as goal

abbrev pub invariant-loop-k : goal.invariant-loop-k
invariant-loop-k l = (length l.rows ≡ 64) × (take l.k l.rows ≡ map (node_row l.equations (length l.nodes)) (take l.k l.nodes))
