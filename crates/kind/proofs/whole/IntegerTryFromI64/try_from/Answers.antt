use Rattle.std.proofs.Common.{arith}
use Rattle.std.proofs.lemmas.Int.{ints}
use Rattle.kind.proofs.WholeLaws.{fitted-in}
use Rattle.kind.proofs.whole.IntegerTryFromI64.try_from.Goals as goal

pub returns-then-unsigned_abs-le-LIMIT : goal.returns-then-unsigned_abs-le-LIMIT
returns-then-unsigned_abs-le-LIMIT c = fitted-in _ c.args.n (omega (arith, ints))
