-- The values of a kind, its numbers and the two truth values.
use Rattle.std.specs.Prelude.{◌≡◌, Bool, not, Some, None, Ok, Err, Option, Result, option_map, refl}
use Rattle.std.specs.Bool.{beq}
use Rattle.reading.specs.declared.faults.KindFault.{KindFault}
use Rattle.reading.specs.declared.faults.KindFault.TheVariants.{WrongKind}
use Rattle.reading.specs.declared.rows.Arithmetic.{Arithmetic}
use Rattle.reading.specs.declared.rows.Relation.{Relation}
use Rattle.reading.specs.declared.rows.Relation.TheVariants.{Equal, Unequal, Less, AtMost, Greater, AtLeast}
use Rattle.kind.specs.declared.values.Value.{Value}
use Rattle.kind.specs.declared.values.Value.TheVariants.{Number, Truth}
use Rattle.kind.specs.Kinds.{Meaning}
use Rattle.kind.specs.Numbers.{Numbers}

-- Of two truth values it can only be said whether they are the same.
abbrev pub alike : Relation → Bool → Bool → Result Bool KindFault
alike Equal p q = Ok (beq p q)
alike Unequal p q = Ok (not (beq p q))
alike Less p q = Err WrongKind
alike AtMost p q = Err WrongKind
alike Greater p q = Err WrongKind
alike AtLeast p q = Err WrongKind

-- What is answered by what is answered with.
abbrev pub answer : {X V : Type 0} → (X → V) → Result X KindFault → Result V KindFault
answer f (Ok x) = Ok (f x)
answer f (Err e) = Err e

abbrev pub told : {N : Type 0} → Value N → Option Bool
told (Number n) = None
told (Truth b) = Some b

-- A value as arithmetic and order take it.
abbrev pub operand : {N O : Type 0} → Numbers N O → Value N → Value O
operand numbers (Number n) = Number (numbers.operand n)
operand numbers (Truth b) = Truth b

abbrev pub negated : {N O : Type 0} → Numbers N O → Value O → Result (Value N) KindFault
negated numbers (Number x) = answer Number (numbers.negated x)
negated numbers (Truth b) = Err WrongKind

-- Only of numbers can arithmetic be answered.
abbrev pub computed : {N O : Type 0} → Numbers N O → Arithmetic → Value O → Value O → Result (Value N) KindFault
computed numbers op (Number a) (Number b) = answer Number (numbers.computed op a b)
computed numbers op (Number a) (Truth q) = Err WrongKind
computed numbers op (Truth p) (Number b) = Err WrongKind
computed numbers op (Truth p) (Truth q) = Err WrongKind

abbrev pub related : {N O : Type 0} → Numbers N O → Relation → Value O → Value O → Result (Value N) KindFault
related numbers r (Number a) (Number b) = Ok (Truth (numbers.holds r a b))
related numbers r (Number a) (Truth q) = Err WrongKind
related numbers r (Truth p) (Number b) = Err WrongKind
related numbers r (Truth p) (Truth q) = answer Truth (alike r p q)

pub told_only : {N : Type 0} (v : Value N) (b : Bool) → told v ≡ Some b → v ≡ Truth b
told_only (Number n) b e = cc
told_only (Truth c) b e = cc

-- The kind whose numbers these are.
abbrev pub values : {N O : Type 0} → Numbers N O → Meaning (Value N)
values numbers =
    record {
      literal = λ n. Number (numbers.literal n);
      truth = Truth;
      told = told;
      told_truth = λ b. refl;
      told_only = told_only;
      negated = λ x. negated numbers (operand numbers x);
      computed = λ op x y. computed numbers op (operand numbers x) (operand numbers y);
      related = λ r x y. related numbers r (operand numbers x) (operand numbers y);
      word = λ bytes. option_map Number (numbers.word bytes);
    }
