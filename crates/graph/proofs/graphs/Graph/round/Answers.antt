use Rattle.std.proofs.Common.{get_or, arith}
use Rattle.std.proofs.ByRecursion.{has_get_or}
use Rattle.graph.proofs.Tables.{none}
use Rattle.graph.proofs.Rounds.{start-within, part-more, part-all}
use Rattle.graph.proofs.graphs.Graph.round.Goals as goal

pub relax-requires : goal.relax-requires
relax-requires c =
    let edges = c.args.self.now.edges.now in
    let e = start-within c.args.measure _ 64 (c.args.self.now.within _ (has_get_or edges c.loop-edge.edge-index none c.loop-edge-test.true)) in
    record {
      starts = e.0;
      ends = e.1;
      room = λ k. omega (arith, c.args.self.now.few, c.loop-edge.invariant.1.low _ c.requires k);
    }

pub loop-edge-preserved : goal.loop-edge-preserved
loop-edge-preserved c =
    let edges = c.args.self.now.edges.now in
    let at = get_or edges c.loop-edge.edge-index none in
    let e = start-within c.args.measure at 64 (c.args.self.now.within at (has_get_or edges c.loop-edge.edge-index none c.loop-edge-test.true)) in (
      omega arith,
      part-more c.args.measure edges c.loop-edge.edge-index c.args.best.now c.loop-edge.best c.relax.new.best
          c.loop-edge-test.true (omega (arith, c.loop-edge.invariant.0)) (omega (arith, c.loop-edge.invariant.0, e.1)) c.loop-edge.invariant.1 c.relax.ensures,
    )

pub returns : goal.returns
returns c = part-all _ _ c.loop-edge.edge-index _ _ (omega arith) c.args.self.now.few c.loop-edge.invariant.1
