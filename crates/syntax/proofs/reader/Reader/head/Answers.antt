use Rattle.std.proofs.Common.{Ok, Some, sym, ap, ◌∙◌}
use Rattle.std.proofs.lemmas.Result.{err_from_is_err_and}
use Rattle.lexer.specs.Lexer.{a_word}
use Rattle.syntax.specs.Reading.{none, wrong}
use Rattle.grammar.proofs.Parts.{not-head, no-head}
use Rattle.syntax.proofs.reader.Reader.head.Goals as goal

pub returns-in_err-atom-clause-read : goal.returns-in_err-atom-clause-read
returns-in_err-atom-clause-read c =
    let p = err_from_is_err_and c.from_residual.result c.from_residual.ensures.1 in
    rw (p.1, p.2) (none c.in_err-atom.ensures.took)

pub returns-else-names-clause-read : goal.returns-else-names-clause-read
returns-else-names-clause-read c =
    let k = c.in_ok-atom.ensures.took in
    wrong (k.1 ∙ ap (λ w. Ok (Some (a_word w k.0))) c.in-Atom.is) (λ es. no-head es c.in-Atom.atom (sym c.names.ensures ∙ c.if-names.false))

pub returns-in_default-clause-read : goal.returns-in_default-clause-read
returns-in_default-clause-read c = wrong c.in_ok-atom.ensures.took.1 (not-head _ c.in_default.not-Atom)
