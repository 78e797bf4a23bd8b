-- What is printed of values, faults and readings, and the lines of a list.
use Rattle.std.specs.Prelude.{ℕ, Bool, cond, List, [], ◌∷◌, ◌++◌, codes, decimal, Ok, Err}
use Rattle.std.specs.Fmt.{signed_decimal}
use Rattle.text.specs.Fields.{fields_text}
use Rattle.text.specs.Hexadecimal.{bits_text}
use Rattle.reading.specs.Faults.{Reading, number_of}
use Rattle.reading.specs.declared.faults.Fault.{Fault}
use Rattle.kind.specs.declared.integer.Integer.{Integer}
use Rattle.kind.specs.declared.finite.Finite.{Finite}
use Rattle.kind.specs.declared.values.Value.{Value}
use Rattle.kind.specs.declared.values.Value.TheVariants as Values
use Rattle.format.specs.declared.lines.Heading.{Heading}
use Rattle.format.specs.declared.lines.Line.{Line}
use Rattle.format.specs.declared.lines.Refused.{Refused}

-- A truth value, by its name.
abbrev pub truth_text : Bool → List ℕ
truth_text b = cond b (codes "true") (codes "false")

-- A whole number in decimal, with a minus sign below 0.
abbrev pub integer_text : Integer → List ℕ
integer_text n = signed_decimal n.value

-- A rate by the sixteen hexadecimal digits of its bits.
abbrev pub finite_text : Finite → List ℕ
finite_text n = bits_text n.bits

-- A value, by what is printed of a number.
abbrev pub value_text : {N : Type 0} → (N → List ℕ) → Value N → List ℕ
value_text text (Values.Number n) = text n
value_text text (Values.Truth b) = truth_text b

-- A value of either kind.
abbrev pub whole_text : Value Integer → List ℕ
whole_text = value_text integer_text

abbrev pub rate_text : Value Finite → List ℕ
rate_text = value_text finite_text

-- The fields of a fault: its number and birth.
abbrev pub fault_fields : Fault → List (List ℕ × ℕ)
fault_fields f = (codes "fault ", number_of f.number) ∷ (codes " row ", f.row) ∷ (codes " tick ", f.tick) ∷ []

-- A fault, as `fault 1 row 1 tick 0`.
abbrev pub fault_text : Fault → List ℕ
fault_text f = fields_text (fault_fields f)

-- A reading, by what is printed of a value.
abbrev pub reading_text : {V : Type 0} → (V → List ℕ) → Reading V → List ℕ
reading_text text (Ok v) = text v
reading_text text (Err f) = fault_text f

-- The line of a tick, as `2 5`, by what is printed of a value.
unfoldable pub line_text : {V : Type 0} → (V → List ℕ) → Line V → List ℕ
line_text text l = decimal l.tick ++ (codes " " ++ (reading_text text l.reading ++ codes "\n"))

-- The fields of the first line.
abbrev pub heading_fields : Heading → List (List ℕ × ℕ)
heading_fields h = (codes "rows ", h.rows) ∷ (codes " stages ", h.stages) ∷ (codes " lead ", h.lead) ∷ (codes " cells ", h.cells) ∷ []

-- The first line, as `rows 9 stages 1 lead 0 cells 11`.
abbrev pub heading_text : Heading → List ℕ
heading_text h = fields_text (heading_fields h) ++ codes "\n"

-- The fields of a refusal.
abbrev pub refused_fields : Refused → List (List ℕ × ℕ)
refused_fields r = (codes "refused ", r.number) ∷ (codes " at ", r.place) ∷ []

-- The line of a refusal, as `refused 3 at 0`.
abbrev pub refused_text : Refused → List ℕ
refused_text r = fields_text (refused_fields r) ++ codes "\n"
