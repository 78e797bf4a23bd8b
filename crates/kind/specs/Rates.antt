-- The kind of rates: the finite IEEE 754 binary64 numbers, and the truth values.
use Rattle.std.specs.Prelude.{ℕ, ◌^◌, ◌≤◌, min, Bool, false, cond, T, List, pos, Some, None, Ok, Err, Option, Result, from_bits, to_bits, Float}
use Rattle.std.proofs.Common.{sym, subst, arith}
use Rattle.std.specs.Float.Ieee.{neg, add, sub, mul, div, eq, ne, lt, le, of_int}
use Rattle.std.specs.Float.Ieee.Back.{round_whole}
use Rattle.std.specs.Float.Ieee.Bits.{of_bits-to_bits}
use Rattle.std.specs.Float.Ieee.Exact.{HasValue}
use Rattle.std.specs.Float.Ieee.Fits.{of_int-fits}
use Rattle.std.specs.Float.{float_is_finite, nan, inf, fin, binary64}
use Rattle.std.specs.Int.Digits.{number_from_digits}
use Rattle.reading.specs.declared.faults.KindFault.{KindFault}
use Rattle.reading.specs.declared.faults.KindFault.TheVariants.{ZeroDivisor, OutOfRange}
use Rattle.reading.specs.declared.rows.Arithmetic.{Arithmetic}
use Rattle.reading.specs.declared.rows.Arithmetic.TheVariants.{Add, Subtract, Multiply, Divide}
use Rattle.reading.specs.declared.rows.Relation.{Relation}
use Rattle.reading.specs.declared.rows.Relation.TheVariants.{Equal, Unequal, Less, AtMost, Greater, AtLeast}
use Rattle.kind.specs.declared.finite.Finite.{Finite}
use Rattle.kind.specs.declared.values.Value.{Value}
use Rattle.kind.specs.Kinds.{Meaning, provided}
use Rattle.kind.specs.Numbers.{Numbers}
use Rattle.kind.specs.Values.{values}

-- The bits as a rate, if they are those of a finite number.
abbrev pub stored : (b : ℕ) → T (float_is_finite (from_bits binary64 b)) → Finite
stored b t = record { bits = b; number = t }

-- A result that is not finite is out of range. (A binary64 number is what its bits stand for.)
abbrev pub packed : Float → Result Finite KindFault
packed x = provided (float_is_finite (from_bits binary64 (to_bits binary64 x))) (λ t. Ok (stored (to_bits binary64 x) t)) (Err OutOfRange)

-- Each operation is rounded once. Both zeros are equal to zero.
abbrev pub calculated : Arithmetic → Float → Float → Result Finite KindFault
calculated Add a b = packed (add binary64 a b)
calculated Subtract a b = packed (sub binary64 a b)
calculated Multiply a b = packed (mul binary64 a b)
calculated Divide a b = cond (eq b (fin false 0 (pos 0))) (Err ZeroDivisor) (packed (div binary64 a b))

abbrev pub holds : Relation → Float → Float → Bool
holds Equal a b = eq a b
holds Unequal a b = ne a b
holds Less a b = lt a b
holds AtMost a b = le a b
holds Greater a b = lt b a
holds AtLeast a b = le b a

-- A word is the bits of a binary64 number, its highest byte first.
abbrev pub word : List ℕ → Option Finite
word bytes = provided (float_is_finite (from_bits binary64 (number_from_digits 256 bytes))) (λ t. Some (stored (number_from_digits 256 bytes) t)) None

-- The whole numbers up to 2 ^ 53 are binary64 numbers.
has-finite : (x : Float) (s : Bool) (a c : ℕ) → HasValue x s a c → T (float_is_finite x)
unfolding float_is_finite
has-finite nan s a c h = absurd h
has-finite (inf b) s a c h = absurd h
has-finite (fin b m e) s a c h = tt

pub whole-finite : (n : ℕ) → n ≤ 2 ^ 53 → T (float_is_finite (from_bits binary64 (to_bits binary64 (of_int binary64 (pos n)))))
unfolding of_int
whole-finite n h =
    subst (λ (x : Float). T (float_is_finite x)) (sym (of_bits-to_bits binary64 (of_int binary64 (pos n)) (of_int-fits binary64 (pos n))))
    (has-finite (of_int binary64 (pos n)) false n 1 (round_whole binary64 false n h))

-- The literals of a program text are at most 2147483647.
abbrev pub literal : ℕ → Finite
literal n = let m = min n 2147483647 in stored (to_bits binary64 (of_int binary64 (pos m))) (whole-finite m (omega arith))

-- The meaning of the numbers. The negative of a number has the other sign and the same size.
abbrev pub finites : Numbers Finite Float
finites =
    record {
      literal = literal;
      operand = λ n. from_bits binary64 n.bits;
      negated = λ x. packed (neg x);
      computed = calculated;
      holds = holds;
      word = word;
    }

-- The meaning of the kind.
abbrev pub rates : Meaning (Value Finite)
rates = values finites
