use Rattle.std.proofs.Common.{ℕ, ◌^◌, ◌≤◌, T, pos, ap, subst, arith}
use lib.Ieee.{Float, binary64, of_int, to_bits}
use lib.Ieee.Bits.{of_bits-to_bits}
use lib.Ieee.Fits.{of_int-fits}
use Rattle.std.specs.Float.{float_is_finite}
use Rattle.kind.specs.Rates.{whole-finite}
use Rattle.kind.proofs.RateLaws.{finite-no-nan, stored_same}
use Rattle.kind.proofs.rate.FiniteNumber.literal.Goals as goal

pub float_to_bits-result : goal.float_to_bits-result
float_to_bits-result c =
    let n = c.capped.result in
    let small : c.capped.result ≤ 2 ^ 53 = omega arith in
    finite-no-nan (of_int binary64 (pos c.capped.result))
    (subst (λ (y : Float). T (float_is_finite y)) (of_bits-to_bits binary64 (of_int binary64 (pos c.capped.result)) (of_int-fits binary64 (pos c.capped.result))) (whole-finite c.capped.result small))

pub invariant_of-result : goal.invariant_of-result
invariant_of-result c =
    let small : c.capped.result ≤ 2 ^ 53 = omega arith in
    record { number = whole-finite c.capped.result small }

pub returns : goal.returns
returns c = stored_same _ _ _ _ (ap (λ (n : ℕ). to_bits binary64 (of_int binary64 (pos n))) c.capped.ensures)
