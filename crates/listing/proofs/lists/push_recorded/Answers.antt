use Rattle.std.proofs.Common.{◌≡◌, Err, refl, ap, ◌∙◌, rules}
use Rattle.table.proofs.Potential.{sound-determines}
use Rattle.listing.specs.declared.refusal.Refusal.TheVariants.{Recording, Run}
use Rattle.listing.proofs.Trying.{refused-run, accepted-run}
use Rattle.listing.proofs.lists.push_recorded.Goals as goal

pub returns-in_err-open : goal.returns-in_err-open
returns-in_err-open g c =
    let e = c.in_err-open.field-0.0 in
    let ends : c.from_residual.result ≡ Err (Recording e) = search rules in
    record { outcome = Err (Recording e); right = record { counts = Err e; opens = c.in_err-open.ensures.opens; ran = refl }; done = (ends, refl) }

pub returns-in_err-push_run : goal.returns-in_err-push_run
returns-in_err-push_run g c =
    let same = c.over-source.ensures.same in
    let recording = c.in_ok-open.ensures in
    let ends : c.from_residual-in_err-push_run.result ≡ Err (Run c.in_err-push_run.field-0.0) = search rules in
    refused-run _ _ _ _ c.args.recording.now c.over-source.result.source.body.bytes.now c.in_ok-open.field-0.body.counts c.over-source.result.source.body.counts
    (ap (λ r. r.body.bytes.now) same ∙ recording.value.1) (ap (λ r. r.body.counts) same) recording.opens _ c.requires _ _ _ c.push_run.ensures _ _ c.in_err-push_run.was ends

pub returns : goal.returns
returns g c =
    let same = c.over-source.ensures.same in
    let recording = c.in_ok-open.ensures in
    accepted-run _ _ _ _ c.args.recording.now c.over-source.result.source.body.bytes.now c.in_ok-open.field-0.body.counts c.over-source.result.source.body.counts
    (ap (λ r. r.body.bytes.now) same ∙ recording.value.1) (ap (λ r. r.body.counts) same) recording.opens _ c.requires _ _ _ c.push_run.ensures
    (sound-determines c.args.table.now.schedule _ c.args.table.now.checked _ _) _ c.in_ok-push_run.was
