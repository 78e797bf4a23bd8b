use Rattle.std.proofs.Common.{◌≡◌, length}
use Rattle.graph.proofs.Rounds.{Part}
use Rattle.graph.proofs.graphs.Graph.round.Given as goal

abbrev pub invariant-loop-edge : goal.invariant-loop-edge
invariant-loop-edge l = (length l.best ≡ 64) × Part l.measure l.self.edges.now l.edge-index l.initial.best l.best
