-- The kind of whole numbers: the integers within 2147483647 of 0, and the truth values.
use Rattle.std.specs.Prelude.{ℕ, min, Bool, false, cond, not, T, List, ℤ, pos, negsuc, ◌+ℤ◌, ◌-ℤ◌, ◌*ℤ◌, neg_ℤ, Ok, Err, Option, Result, ◌==◌, int_div, int_le, int_lt, nat_le, unsigned_abs}
use Rattle.std.proofs.Common.{arith, leb→le, to_z}
use Rattle.std.specs.Int.{w64}
use Rattle.std.specs.Result.{result_ok}
use Rattle.std.specs.Int.Digits.{number_from_digits}
use Rattle.reading.specs.declared.faults.KindFault.{KindFault}
use Rattle.reading.specs.declared.faults.KindFault.TheVariants.{ZeroDivisor, OutOfRange}
use Rattle.reading.specs.declared.rows.Arithmetic.{Arithmetic}
use Rattle.reading.specs.declared.rows.Arithmetic.TheVariants.{Add, Subtract, Multiply, Divide}
use Rattle.reading.specs.declared.rows.Relation.{Relation}
use Rattle.reading.specs.declared.rows.Relation.TheVariants.{Equal, Unequal, Less, AtMost, Greater, AtLeast}
use Rattle.kind.specs.declared.integer.Integer.{Integer}
use Rattle.kind.specs.declared.values.Value.{Value}
use Rattle.kind.specs.Kinds.{Meaning, provided}
use Rattle.kind.specs.Numbers.{Numbers}
use Rattle.kind.specs.Values.{values}

-- the integer z as a number, if it is within the limit
abbrev pub within : ℤ → Bool
within z = nat_le (unsigned_abs z) 2147483647

abbrev pub bounded : (z : ℤ) → T (within z) → Integer
bounded z t = record { value = z; within = leb→le (unsigned_abs z) 2147483647 t }

abbrev pub fitted : ℤ → Result Integer KindFault
fitted z = provided (within z) (λ t. Ok (bounded z t)) (Err OutOfRange)

abbrev pub equal : ℤ → ℤ → Bool
equal (pos a) (pos b) = a == b
equal (pos a) (negsuc b) = false
equal (negsuc a) (pos b) = false
equal (negsuc a) (negsuc b) = a == b

-- A quotient drops its fraction.
abbrev pub calculated : Arithmetic → ℤ → ℤ → Result Integer KindFault
calculated Add a b = fitted (a +ℤ b)
calculated Subtract a b = fitted (a -ℤ b)
calculated Multiply a b = fitted (a *ℤ b)
calculated Divide a b = cond (equal b (pos 0)) (Err ZeroDivisor) (fitted (int_div a b))

abbrev pub holds : Relation → ℤ → ℤ → Bool
holds Equal a b = equal a b
holds Unequal a b = not (equal a b)
holds Less a b = int_lt a b
holds AtMost a b = int_le a b
holds Greater a b = int_lt b a
holds AtLeast a b = int_le b a

-- A word is the two's complement of an integer, its highest byte first.
abbrev pub word : List ℕ → Option Integer
word bytes = result_ok (fitted (to_z w64 (number_from_digits 256 bytes)))

-- The literals of a program text are at most 2147483647.
abbrev pub literal : ℕ → Integer
literal n = record { value = pos (min n 2147483647); within = omega arith }

-- The meaning of the numbers.
abbrev pub integers : Numbers Integer Integer
integers =
    record {
      literal = literal;
      operand = λ n. n;
      negated = λ n. fitted (neg_ℤ n.value);
      computed = λ op a b. calculated op a.value b.value;
      holds = λ r a b. holds r a.value b.value;
      word = word;
    }

-- The meaning of the kind.
abbrev pub wholes : Meaning (Value Integer)
wholes = values integers
