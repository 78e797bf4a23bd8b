use Rattle.std.proofs.Common.{◌≡◌, T, length, sym, ◌∙◌, subst, rules}
use Rattle.kind.proofs.BigEndian.{number-8}
use Rattle.kind.proofs.RateLaws.{word_in, word_out}
use Rattle.kind.proofs.rate.FiniteNumber.word.Goals as goal

pub returns-then-is_finite : goal.returns-then-is_finite
returns-then-is_finite c =
    let size : length c.args.bytes ≡ 8 = search rules in
    word_in c.args.bytes c.from_be_bytes-bits.result _ (c.from_be_bytes-bits.ensures ∙ sym (number-8 c.args.bytes size))

pub returns-else-is_finite : goal.returns-else-is_finite
returns-else-is_finite c =
    let size : length c.args.bytes ≡ 8 = search rules in
    word_out c.args.bytes c.from_be_bytes-bits.result
    (λ t. subst T (sym c.is_finite.ensures ∙ c.if-is_finite.false) t)
    (c.from_be_bytes-bits.ensures ∙ sym (number-8 c.args.bytes size))
