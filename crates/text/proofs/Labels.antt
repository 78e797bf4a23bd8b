-- One more field.
use Rattle.std.proofs.Common.{◌≡◌, ℕ, zero, suc, ◌<◌, List, [], ◌∷◌, ◌++◌, length, get_or, take, decimal, sym, ap, ◌∙◌, append_assoc, append-nil, arith}
use Rattle.text.specs.declared.fields.Field.{Field}
use Rattle.text.specs.Fields.{fields_text, labelled}

abbrev text_of : Field → List ℕ
text_of f = f.words.now ++ decimal f.value

pub fields-more : (fs : List Field) (i : ℕ) (d : Field) → i < length fs → fields_text (labelled (take i fs)) ++ ((get_or fs i d).words.now ++ decimal (get_or fs i d).value) ≡ fields_text (labelled (take (suc i) fs))
fields-more [] i d h = absurd (omega arith)
fields-more (f ∷ fs) zero d h = sym (append-nil (text_of f))
fields-more (f ∷ fs) (suc i) d h =
    append_assoc (text_of f) (fields_text (labelled (take i fs))) (text_of (get_or fs i d)) ∙ ap (λ (r : List ℕ). text_of f ++ r) (fields-more fs i d (omega arith))
