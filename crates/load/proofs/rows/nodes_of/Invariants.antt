use Rattle.std.proofs.Common.{◌≡◌, map, length, take}
use Rattle.load.proofs.rows.nodes_of.Given as goal

abbrev pub invariant-loop-k : goal.invariant-loop-k
invariant-loop-k l = (length l.nodes ≡ 64) × (take l.k l.nodes ≡ map (λ e. e.node) (take l.k l.equations))
