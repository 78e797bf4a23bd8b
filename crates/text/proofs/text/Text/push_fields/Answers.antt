use Rattle.std.proofs.Common.{ap, add-one, arith, take_all}
use Rattle.text.specs.Fields.{fields_text, labelled}
use Rattle.text.proofs.Chain.{pushed_then, pushed-is}
use Rattle.text.proofs.Labels.{fields-more}
use Rattle.text.proofs.text.Text.push_fields.Goals as goal

pub loop-field-preserved : goal.loop-field-preserved
loop-field-preserved c =
    rw add-one
    (pushed-is _ _ _ _ (fields-more c.args.fields.now c.loop-field.field-index _ (omega arith)) (pushed_then _ _ _ _ _ c.loop-field.invariant (pushed_then _ _ _ _ _ c.push_str.ensures c.push_number.ensures)))

pub returns : goal.returns
returns c =
    let whole = take_all c.loop-field.field-index c.args.fields.now (omega arith) in
    pushed-is _ _ _ _ (ap (λ fs. fields_text (labelled fs)) whole) c.loop-field.invariant
