use Rattle.std.proofs.Common.{◌<◌, ◌≤◌, ◌⊎◌, rules}
use borrow.Author.Tests.{tests}
use Rattle.std.proofs.lemmas.Iterator.{cases_from_all, YieldsList-from_slice}
use Rattle.graph.specs.declared.edges.Edge.{Edge}
use Rattle.graph.proofs.Tables.{each-or-some}
use Rattle.graph.proofs.joins.join_rows.Goals as goal

pub returns : goal.returns
returns c =
    let inside : Edge → Type 0 = λ e. (e.from < c.args.rows) × (e.to < c.args.rows) in
    let outside : Edge → Type 0 = λ e. (c.args.rows ≤ e.from) ⊎ (c.args.rows ≤ e.to) in
    each-or-some inside outside c.args.edges.now c.all.result
    (cases_from_all _ _ c.all.result inside outside c.all.ensures.ran (YieldsList-from_slice c.args.edges.now cc)
    (λ x q k. search (rules, tests)) (λ x q k. search (rules, tests)))
