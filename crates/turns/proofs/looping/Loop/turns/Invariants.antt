use Rattle.turns.specs.Holds.{Kept, TurnsMade}
use Rattle.turns.specs.Loops.{laid, Stays}
use Rattle.turns.proofs.looping.Loop.turns.Given as goal

abbrev pub invariant-loop-turn : goal.invariant-loop-turn
invariant-loop-turn g l =
    TurnsMade (laid l.initial.self) g.V.Kind.meaning (g.S.Source.meaning l.source).says l.stage l.turn l.initial.self.cells.now l.self.cells.now ×
    Kept (laid l.initial.self) l.initial.self.cells.now l.self.cells.now × Stays l.initial.self l.self
