use Rattle.std.proofs.Common.{Ok, Some, ap, ◌∙◌}
use Rattle.std.proofs.lemmas.Result.{err_from_is_err_and}
use Rattle.lexer.specs.declared.token.Mark.TheVariants.{Semicolon, End}
use Rattle.lexer.specs.Lexer.{a_word}
use Rattle.syntax.specs.Reading.{none, wrong}
use Rattle.grammar.proofs.Parts.{is-other, is-no-mark}
use Rattle.syntax.proofs.reader.Reader.another.Goals as goal

pub returns-in_err-mark-clause-read : goal.returns-in_err-mark-clause-read
returns-in_err-mark-clause-read c =
    let p = err_from_is_err_and c.from_residual.result c.from_residual.ensures.1 in
    rw (p.1, p.2) (none c.in_err-mark.ensures.took)

pub returns-in_default-clause-read : goal.returns-in_default-clause-read
returns-in_default-clause-read c = wrong c.in_ok-mark.ensures.took.1 (is-no-mark Semicolon _ c.in_default.not-Mark, is-no-mark End _ c.in_default.not-Mark)

pub returns-in_default-mark-clause-read : goal.returns-in_default-mark-clause-read
returns-in_default-mark-clause-read c =
    let k = c.in_ok-mark.ensures.took in
    wrong (k.1 ∙ ap (λ w. Ok (Some (a_word w k.0))) c.in-Mark.is) (is-other Semicolon _ c.in_default-mark.not-Semicolon, is-other End _ c.in_default-mark.not-End)
