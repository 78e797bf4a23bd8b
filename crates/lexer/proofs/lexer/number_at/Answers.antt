use Rattle.lexer.proofs.Runs.{run_digits}
use Rattle.lexer.proofs.lexer.number_at.Goals as goal

pub literal-requires : goal.literal-requires
literal-requires c = run_digits _ _ _ c.run_end-end.ensures.value
