use Rattle.std.proofs.Common.{◌∙◌}
use Rattle.lexer.proofs.Runs.{filled_is}
use Rattle.lexer.proofs.lexer.filled.Goals as goal

pub returns : goal.returns
returns c = c.make_ascii_lowercase.ensures.after ∙ rw c.copy_from_slice.ensures.after (filled_is c.args.word.now)
