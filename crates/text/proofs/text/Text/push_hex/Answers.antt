use Rattle.std.proofs.Common.{Ok, Err, Result, sym, subst, refl}
use Rattle.std.specs.Result.{IsOk, MatchResult}
use Rattle.std.specs.Str.{IsUtf8}
use Rattle.text.proofs.Hex.{bits-utf8}
use Rattle.text.proofs.text.Text.push_hex.Goals as goal

ok-unless : {T E : Type 0} (P : T → Type 0) (Q : Type 0) (R : E → Type 0) (r : Result T E) → MatchResult r P (λ e. (¬ Q) × R e) → Q → IsOk r
ok-unless P Q R (Ok v) h q = refl
ok-unless P Q R (Err e) h q = absurd (h.0 q)

pub unwrap-requires : goal.unwrap-requires
unwrap-requires c = ok-unless _ _ _ c.from_utf8.result c.from_utf8.ensures.cases (subst IsUtf8 (sym c.hex_digits-digits.ensures) (bits-utf8 c.args.bits))
