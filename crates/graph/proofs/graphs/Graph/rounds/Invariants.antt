use Rattle.graph.specs.Relaxing.{Rounds}
use Rattle.graph.proofs.graphs.Graph.rounds.Given as goal

abbrev pub invariant-loop : goal.invariant-loop
invariant-loop l = Rounds l.measure l.self.edges.now l.counter l.best
