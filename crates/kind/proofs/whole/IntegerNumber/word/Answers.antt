use Rattle.std.proofs.Common.{◌≡◌, length, ℤ, sym, ap, ◌∙◌, arith, to_z, of_z, w64, rules}
use Rattle.std.proofs.lemmas.Int.{ints}
use Rattle.std.specs.Result.{result_ok}
use Rattle.kind.specs.Wholes.{fitted}
use Rattle.kind.proofs.BigEndian.{number-8}
use Rattle.kind.proofs.whole.IntegerNumber.word.Goals as goal

pub returns : goal.returns
returns c =
    let size : length c.args.bytes ≡ 8 = search rules in
    let back : to_z w64 (of_z w64 c.from_be_bytes.result) ≡ c.from_be_bytes.result = omega (arith, ints) in
    let number = back ∙ c.from_be_bytes.ensures ∙ ap (to_z w64) (sym (number-8 c.args.bytes size)) in
    c.ok.ensures.value ∙ ap result_ok c.try_from.ensures ∙ ap (λ (z : ℤ). result_ok (fitted z)) number
