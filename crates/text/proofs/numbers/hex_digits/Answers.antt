use Rattle.std.proofs.Common.{Ok, Result, ap, ◌∙◌, ◌≡◌, subst}
use Rattle.std.specs.Result.{OnOk}
use Rattle.hex.specs.Hex.{encode_lower}
use Rattle.text.proofs.Hex.{encoded_word}
use Rattle.text.proofs.numbers.hex_digits.Goals as goal

of_ok : {T E : Type 0} {P : Type 0} (r : Result T E) (v : T) → r ≡ Ok v → OnOk r P → P
of_ok {T} {E} {P} r v e h = subst (λ (o : Result T E). OnOk o P) e h

pub returns : goal.returns
returns c = of_ok _ _ c.unwrap.ensures c.encode_to_slice.ensures.written ∙ ap encode_lower c.to_be_bytes.ensures ∙ encoded_word c.args.bits
