use Rattle.std.proofs.Common.{rules}
use borrow.Author.Tests.{tests}
use Rattle.std.proofs.lemmas.Iterator.{cases_from_all, YieldsList-from_slice}
use Rattle.std.proofs.lemmas.Iterator.Adapters.{serves_from_places}
use Rattle.graph.specs.Relaxing.{Offers, Passed}
use Rattle.graph.proofs.Tables.{has-item, each-or-some}
use Rattle.graph.proofs.Rounds.{start-within}
use Rattle.graph.proofs.graphs.Graph.is_stable.Goals as goal

pub all-requires-clause-callable : goal.all-requires-clause-callable
all-requires-clause-callable c =
    let edges = c.args.self.now.edges.now in
    serves_from_places (YieldsList-from_slice edges cc) (λ x q k. search (rules, tests))
    (λ x k h e. let w = start-within c.args.measure x.now 64 (c.args.self.now.within x.now (has-item edges k x.now h e)) in
    λ _ _ _ _ _ _ _. (w.0, (w.1, c.requires)))

pub returns : goal.returns
returns c =
    let best = c.args.best.now in
    let edges = c.args.self.now.edges.now in
    each-or-some (Passed c.args.measure best best) (Offers c.args.measure best) edges c.all.result
    (cases_from_all _ _ c.all.result (Passed c.args.measure best best) (Offers c.args.measure best) c.all.ensures.ran (YieldsList-from_slice edges cc)
    (λ x q k. search (rules, tests)) (λ x q k. search (rules, tests)))
