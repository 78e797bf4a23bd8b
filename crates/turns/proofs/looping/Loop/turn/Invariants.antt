use Rattle.std.proofs.Common.{ℕ}
use Rattle.theory.specs.Rule.{Sheet, Fits}
use Rattle.table.specs.Layout.{position_at}
use Rattle.turns.specs.Holds.{Holds, Midst, Kept}
use Rattle.turns.specs.Loops.{laid, Stays}
use Rattle.turns.proofs.looping.Loop.turn.Given as goal

abbrev pub invariant-loop-r : goal.invariant-loop-r
invariant-loop-r g l =
    ((H : ℕ) (σ : Sheet g.row.V.Denot) → Fits (laid l.initial.self).rows g.V.Kind.meaning (g.S.Source.meaning l.source).says H σ →
    Holds (laid l.initial.self) l.initial.self.cells.now σ l.stage l.turn →
    Midst (laid l.initial.self) (position_at (laid l.initial.self)) l.self.cells.now σ l.stage l.turn l.r-index) ×
    Kept (laid l.initial.self) l.initial.self.cells.now l.self.cells.now × Stays l.initial.self l.self
