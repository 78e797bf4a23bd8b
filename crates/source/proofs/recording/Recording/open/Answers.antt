use Rattle.std.proofs.Common.{Ok, Err, ◌≡◌, subst, rules}
use Rattle.source.specs.Openings.{Opens}
use Rattle.source.specs.Recordings.{checked}
use Rattle.source.proofs.Openings.{checked-opens}
use Rattle.source.proofs.recording.Recording.open.Goals as goal

pub returns-in_err-check-clause-opens : goal.returns-in_err-check-clause-opens
returns-in_err-check-clause-opens g c =
    let bytes = c.args.bytes.now in
    let code = g.V.Recorded.code in
    let is : checked code bytes ≡ Err c.in_err-check.field-0.0 = search rules in
    let opens = subst (Opens code bytes) is (checked-opens code bytes) in
    search rules

pub returns-clause-opens : goal.returns-clause-opens
returns-clause-opens g c =
    let bytes = c.args.bytes.now in
    let code = g.V.Recorded.code in
    let is : checked code bytes ≡ Ok c.in_ok-check.field-0.counts = search rules in
    subst (Opens code bytes) is (checked-opens code bytes)
