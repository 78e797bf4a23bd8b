use Rattle.std.proofs.Common.{[], ◌∷◌, refl, ap, ◌∙◌, arith}
use Rattle.std.proofs.lemmas.Result.{err_from_is_err_and}
use Rattle.lexer.specs.declared.token.Mark.TheVariants.{Compute, Output, Where}
use Rattle.lexer.specs.declared.token.Token.TheVariants as word
use Rattle.syntax.proofs.Steps.{moved-missing, moved-marked}
use Rattle.syntax.proofs.Judge.{way-first, mark-way, header-missing, header-end, moved-mark}
use Rattle.syntax.proofs.reader.Reader.header.Goals as goal

pub returns-in_err-expect-clause-read : goal.returns-in_err-expect-clause-read
returns-in_err-expect-clause-read c =
    let p = err_from_is_err_and c.from_residual.result c.from_residual.ensures.1 in
    let v0 = way-first _ _ c.requires.first in
    rw (p.1, p.2) (header-missing _ Compute (Output ∷ Where ∷ []) v0 c.in_err-expect.ensures.marked)

pub returns-in_err-expect-2-clause-read : goal.returns-in_err-expect-2-clause-read
returns-in_err-expect-2-clause-read c =
    let p = err_from_is_err_and c.from_residual-in_err-expect-2.result c.from_residual-in_err-expect-2.ensures.1 in
    let v0 = way-first _ _ c.requires.first in
    let v1 = mark-way _ Compute v0 c.in_ok-expect.ensures.marked refl refl (omega arith) in
    let t1 = c.expect.ensures.text in
    rw (p.1, p.2) (header-missing _ Output (Where ∷ []) v1 (moved-missing (ap (λ x. x.now) t1) c.in_err-expect-2.ensures.marked))

pub returns-clause-read : goal.returns-clause-read
returns-clause-read c =
    let v0 = way-first _ _ c.requires.first in
    let v1 = mark-way _ Compute v0 c.in_ok-expect.ensures.marked refl refl (omega arith) in
    let t1 = c.expect.ensures.text in
    let n1 = ap (λ x. x.now) t1 in
    let m1 = moved-marked c.args.self.now.text.now _ c.expect.new.self.place c.expect-2.new.self.place (word.Mark Output) n1 c.in_ok-expect-2.ensures.marked in
    let v2 = mark-way _ Output v1 m1 refl refl (omega arith) in
    let t2 = c.expect-2.ensures.text ∙ t1 in
    let n2 = ap (λ x. x.now) t2 in
    header-end _ _ _ v2 c.expect-3.result (moved-mark _ _ _ _ _ _ n2 c.expect-3.ensures.marked)
