-- Words and numbers by turns.
use Rattle.std.specs.Prelude.{ℕ, List, [], ◌∷◌, ◌++◌, decimal}
use Rattle.text.specs.declared.fields.Field.{Field}

-- The fields, each by its words and its number.
abbrev pub labelled : List Field → List (List ℕ × ℕ)
labelled [] = []
labelled (f ∷ fs) = (f.words.now, f.value) ∷ labelled fs

-- The words and then the number of each field, in decimal.
abbrev pub fields_text : List (List ℕ × ℕ) → List ℕ
fields_text [] = []
fields_text ((words, n) ∷ fs) = (words ++ decimal n) ++ fields_text fs
