use Rattle.lexer.proofs.Runs.{too_great}
use Rattle.lexer.proofs.lexer.literal.Goals as goal

pub returns-then-value-gt-GREATEST : goal.returns-then-value-gt-GREATEST
returns-then-value-gt-GREATEST c = too_great _ _ _ c.loop-b-test.true c.loop-b.invariant.1 c.if-value-gt-GREATEST.true
