use Rattle.std.proofs.Common.{◌∙◌}
use Rattle.lexer.proofs.Runs.{meaning_is}
use Rattle.lexer.proofs.lexer.reserved_word.Goals as goal

pub returns : goal.returns
returns c = c.meaning.ensures ∙ meaning_is _ _
