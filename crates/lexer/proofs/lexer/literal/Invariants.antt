use Rattle.std.proofs.Common.{◌≡◌, ◌≤◌, take}
use Rattle.lexer.specs.Lexer.{value, greatest}
use Rattle.lexer.proofs.lexer.literal.Given as goal

abbrev pub invariant-loop-b : goal.invariant-loop-b
invariant-loop-b l = (l.value ≤ greatest) × (l.value ≡ value (take l.b-index l.digits))
