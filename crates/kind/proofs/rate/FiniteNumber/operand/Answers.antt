use Rattle.std.proofs.Common.{Bool, not, T, sym, subst}
use lib.Ieee.{binary64, of_bits}
use lib.Ieee.Bits.{nan_bits_is}
use Rattle.kind.proofs.RateLaws.{finite-no-nan}
use Rattle.kind.proofs.rate.FiniteNumber.operand.Goals as goal

pub float_from_bits-result : goal.float_from_bits-result
float_from_bits-result c =
    subst (λ (b : Bool). T (not b)) (sym (nan_bits_is binary64 c.args.self.bits))
    (finite-no-nan (of_bits binary64 c.args.self.bits) c.args.self.number)
