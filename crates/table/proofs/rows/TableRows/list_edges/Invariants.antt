use Rattle.std.proofs.Common.{◌≡◌, ◌*◌, ◌≤◌}
use Rattle.arrayvec.specs.ArrayVec.{array_vec_len}
use Rattle.table.specs.Edges.{first_edges}
use Rattle.table.proofs.rows.TableRows.list_edges.Given as goal

abbrev pub invariant-loop-from : goal.invariant-loop-from
invariant-loop-from l = (l.edges.items ≡ first_edges l.self.rows.now l.from) × (array_vec_len l.edges ≤ 3 * l.from)
