-- Between a binary64 number and its bits.
use Rattle.std.proofs.Common.{◌≡◌, ℕ, not, T, List, Some, None, Ok, Err, sym, ap, ◌∙◌, subst}
use lib.Dec.{T_prop}
use lib.Ieee.{Float, nan, inf, fin, binary64, of_bits, to_bits, fits, is_nan}
use lib.Ieee.Bits.{of_bits-to_bits}
use Rattle.std.specs.Float.{float_is_finite}
use Rattle.reading.specs.declared.faults.KindFault.TheVariants.{OutOfRange}
use Rattle.std.specs.Int.Digits.{number_from_digits}
use Rattle.kind.specs.Rates.{stored, packed, word}
use Rattle.kind.proofs.Provided.{provided-yes, provided-no}

pub finite-no-nan : (x : Float) → T (float_is_finite x) → T (not (is_nan x))
unfolding float_is_finite is_nan
finite-no-nan nan t = absurd t
finite-no-nan (inf s) t = absurd t
finite-no-nan (fin s m e) t = tt

pub finite-back : (x : Float) → T (fits binary64 x) → T (float_is_finite x) → T (float_is_finite (of_bits binary64 (to_bits binary64 x)))
finite-back x f t = subst (λ (y : Float). T (float_is_finite y)) (sym (of_bits-to_bits binary64 x f)) t

pub packed-in : (x : Float) (t : T (float_is_finite (of_bits binary64 (to_bits binary64 x)))) → Ok (stored (to_bits binary64 x) t) ≡ packed x
packed-in x t = sym (provided-yes (float_is_finite (of_bits binary64 (to_bits binary64 x))) (λ h. Ok (stored (to_bits binary64 x) h)) (Err OutOfRange) t)

pub packed-out : (x : Float) → T (fits binary64 x) → (T (float_is_finite x) → ⊥) → Err OutOfRange ≡ packed x
packed-out x f far =
    sym (provided-no (float_is_finite (of_bits binary64 (to_bits binary64 x))) (λ h. Ok (stored (to_bits binary64 x) h)) (Err OutOfRange)
    (λ t. far (subst (λ (y : Float). T (float_is_finite y)) (of_bits-to_bits binary64 x f) t)))

pub stored_same : (a b : ℕ) (t : T (float_is_finite (of_bits binary64 a))) (u : T (float_is_finite (of_bits binary64 b))) → a ≡ b → stored a t ≡ stored b u
stored_same a b t u e =
    subst (λ (n : ℕ). (h : T (float_is_finite (of_bits binary64 n))) → stored a t ≡ stored n h) e
    (λ h. ap (stored a) (T_prop (float_is_finite (of_bits binary64 a)) t h))
    u

pub word_in : (bytes : List ℕ) (n : ℕ) (t : T (float_is_finite (of_bits binary64 n))) → n ≡ number_from_digits 256 bytes → Some (stored n t) ≡ word bytes
word_in bytes n t e =
    let u = subst (λ (k : ℕ). T (float_is_finite (of_bits binary64 k))) e t in
    ap Some (stored_same n (number_from_digits 256 bytes) t u e) ∙ sym (provided-yes (float_is_finite (of_bits binary64 (number_from_digits 256 bytes))) (λ h. Some (stored (number_from_digits 256 bytes) h)) None u)

pub word_out : (bytes : List ℕ) (n : ℕ) → (T (float_is_finite (of_bits binary64 n)) → ⊥) → n ≡ number_from_digits 256 bytes → None ≡ word bytes
word_out bytes n far e =
    sym (provided-no (float_is_finite (of_bits binary64 (number_from_digits 256 bytes))) (λ h. Some (stored (number_from_digits 256 bytes) h)) None
    (λ t. far (subst (λ (k : ℕ). T (float_is_finite (of_bits binary64 k))) (sym e) t)))
