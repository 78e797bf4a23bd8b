-- A loop that stays over its table and in its cells in each of two calls stays so in both.
use Rattle.std.proofs.Common.{◌∙◌}
use Rattle.turns.specs.declared.looping.Loop.{Loop}
use Rattle.turns.specs.Loops.{Stays}

pub stays_on : {V : Type 0} {a b c : Loop V} → Stays a b → Stays b c → Stays a c
stays_on p q = record { view = q.view ∙ p.view; cells = q.cells ∙ p.cells }
