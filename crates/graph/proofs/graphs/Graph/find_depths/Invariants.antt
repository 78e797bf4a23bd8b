use Rattle.std.proofs.Common.{◌≡◌, length}
use Rattle.graph.proofs.Deepening.{Part}
use Rattle.graph.proofs.graphs.Graph.find_depths.Given as goal

abbrev pub invariant-loop-edge : goal.invariant-loop-edge
invariant-loop-edge l = (length l.depth ≡ 64) × Part l.self.edges.now l.output l.lead l.edge-index l.depth
