use Rattle.std.proofs.Common.{◌<◌, ◌≤◌, rules}
use Rattle.std.proofs.lemmas.Iterator.{first_from_Range}
use borrow.Author.Tests.{tests}
use Rattle.source.specs.Openings.{mark_at}
use Rattle.source.proofs.MarkLaws.{first_is}
use Rattle.source.proofs.recording.Body.find_bad.Goals as goal

pub returns : goal.returns
returns c =
    let bytes = c.args.self.now.bytes.now in
    let n = c.args.self.now.counts in
    first_is bytes n n.ticks c.find.result
    (first_from_Range _ _ _ _ (λ t. 1 < mark_at bytes n t) (λ t. mark_at bytes n t ≤ 1) c.find.ensures.ran (λ x q k. search (rules, tests)) (λ x q k. search (rules, tests)))
