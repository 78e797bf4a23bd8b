use Rattle.std.proofs.Common.{T, sym, subst, rules}
use lib.Ieee.{binary64, fits}
use Rattle.kind.proofs.RateLaws.{finite-back, packed-in, packed-out}
use Rattle.kind.proofs.rate.FiniteTryFromF64.try_from.Goals as goal

pub invariant_of-result : goal.invariant_of-result
invariant_of-result c =
    let f : T (fits binary64 c.args.x) = search rules in
    record { number = finite-back c.args.x f (subst T c.if-is_finite.ensures.value tt) }

pub returns-then-is_finite : goal.returns-then-is_finite
returns-then-is_finite c = packed-in c.args.x _

pub returns-else-is_finite : goal.returns-else-is_finite
returns-else-is_finite c =
    let f : T (fits binary64 c.args.x) = search rules in
    packed-out c.args.x f (λ t. subst T (sym c.if-is_finite.ensures.value) t)
