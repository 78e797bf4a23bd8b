use Rattle.std.proofs.Common.{ℕ, replicate, arith, length-set}
use Rattle.std.proofs.ByRecursion.{has_get_or}
use Rattle.graph.proofs.Tables.{none}
use Rattle.graph.proofs.Deepening.{part_none, part-more, part-all, depth_small}
use Rattle.graph.proofs.graphs.Graph.find_depths.Goals as goal

pub deepen-requires : goal.deepen-requires
deepen-requires c =
    let e = c.args.self.now.within _ (has_get_or c.args.self.now.edges.now c.loop-edge.edge-index none c.loop-edge-test.true) in
    record { from = e.0; to = e.1; small = c.requires.small }

pub loop-edge-init : goal.loop-edge-init
loop-edge-init c = (omega (arith, length-set {A = ℕ}), part_none c.args.self.now.edges.now c.args.output c.args.lead.now (replicate 64 1) c.requires.output_within cc)

pub loop-edge-preserved : goal.loop-edge-preserved
loop-edge-preserved c = (
  omega arith,
  part-more _ _ _ c.loop-edge.edge-index c.loop-edge.depth c.deepen.new.depth c.loop-edge-test.true (omega (arith, c.loop-edge.invariant.0)) c.loop-edge.invariant.1 c.deepen.ensures,
)

pub returns : goal.returns
returns c =
    let deep = part-all c.args.self.now.edges.now c.args.output c.args.lead.now c.loop-edge.edge-index c.loop-edge.depth c.loop-edge-test.false c.loop-edge.invariant.1 in
    record {
      greatest = λ row h. deep row (omega (arith, c.loop-edge.invariant.0));
      low = depth_small c.args.self.now.edges.now c.args.output c.args.lead.now c.loop-edge.depth c.args.self.now.within c.requires.small
          c.loop-edge.invariant.0 deep;
    }
