use Rattle.std.proofs.Common.{take}
use Rattle.text.specs.Fields.{fields_text, labelled}
use Rattle.text.specs.Pushed.{Pushed}
use Rattle.text.proofs.text.Text.push_fields.Given as goal

abbrev pub invariant-loop-field : goal.invariant-loop-field
invariant-loop-field l = Pushed l.initial.self l.self (fields_text (labelled (take l.field-index l.fields)))
