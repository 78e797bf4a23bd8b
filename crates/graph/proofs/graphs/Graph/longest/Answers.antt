use Rattle.std.proofs.Common.{arith}
use Rattle.graph.proofs.Sums.{judged}
use Rattle.graph.proofs.graphs.Graph.longest.Goals as goal

pub returns : goal.returns
returns c =
    rw c.then_some.ensures (judged c.args.self.now.edges.now c.rounds-best.result (omega arith) c.args.self.now.within
    c.args.measure c.rounds-best.ensures c.is_stable.result c.is_stable.ensures)
