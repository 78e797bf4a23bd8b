use denote.Enum.Bare.{same_false}
use Rattle.std.proofs.Common.{sym, ap, ◌∙◌}
use Rattle.std.proofs.lemmas.Result.{err_from_is_err_and}
use Rattle.lexer.specs.contracts.token.Mark.{the_type}
use Rattle.syntax.specs.Reading.{halted, other_word}
use Rattle.grammar.specs.Machine.{is}
use Rattle.grammar.proofs.Parts.{is-other, is-no-mark}
use Rattle.syntax.proofs.reader.Reader.expect.Goals as goal

pub returns-in_err-found-clause-marked : goal.returns-in_err-found-clause-marked
returns-in_err-found-clause-marked c =
    let p = err_from_is_err_and c.from_residual.result c.from_residual.ensures.1 in
    rw (p.1, p.2) (halted c.in_err-found.ensures.took)

pub returns-else-eq-clause-marked : goal.returns-else-eq-clause-marked
returns-else-eq-clause-marked c = other_word c.in_ok-found.ensures.took.1 (ap (is c.args.mark) c.in-Mark.is ∙ is-other _ _ (same_false the_type _ _ (sym c.if-eq.ensures)))

pub returns-in_default-clause-marked : goal.returns-in_default-clause-marked
returns-in_default-clause-marked c = other_word c.in_ok-found.ensures.took.1 (is-no-mark _ _ c.in_default.not-Mark)
