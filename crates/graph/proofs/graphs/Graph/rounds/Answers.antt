use Rattle.graph.proofs.Rounds.{rounds-none, rounds-more, zeros}
use Rattle.graph.proofs.graphs.Graph.rounds.Goals as goal

pub loop-init : goal.loop-init
loop-init c = rounds-none _ _ _ (zeros 64)

pub loop-preserved : goal.loop-preserved
loop-preserved c = rounds-more _ _ _ _ _ c.loop.invariant c.round.ensures
