-- How many rows a text may have.
use Rattle.std.specs.Prelude.{ℕ, ◌-◌, cond, List, [], ◌∷◌, length, Some, None, Ok, Err, Option, Result, nat_lt}
use Rattle.syntax.specs.declared.draft.Equation.{Equation}
use Rattle.load.specs.declared.refusal.Refusal.{Refusal}
use Rattle.load.specs.declared.refusal.Refusal.TheVariants.{TooMany}

-- A table has at most 64 rows.
abbrev pub row_limit : ℕ
row_limit = 64

-- The operand rows after the last equation; the first equation after which there are more than the room is refused.
abbrev pub counted : ℕ → ℕ → List Equation → Result ℕ Refusal
counted room rows [] = Ok rows
counted room rows (e ∷ es) = cond (nat_lt room e.rows) (Err (TooMany e.place)) (counted room e.rows es)

-- An equation too many is refused at its place.
abbrev pub few : Option ℕ → Result (Unit {0}) Refusal
few None = Ok tt
few (Some p) = Err (TooMany p)

-- The number of operand rows; else the equation in which the first row too many arises is refused.
abbrev pub operand_count : List Equation → Result ℕ Refusal
operand_count es = counted (row_limit - length es) 0 es
