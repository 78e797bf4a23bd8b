use Rattle.std.proofs.Common.{◌≡◌, ◌-◌, length}
use Rattle.theory.specs.Rule.{Sheet}
use Rattle.turns.specs.Holds.{Settled}
use Rattle.turns.specs.Loops.{laid, Stays}
use Rattle.turns.specs.Searches.{Begun}
use Rattle.turns.specs.Ticks.{Untouched}
use Rattle.turns.proofs.looping.Loop.begin.Given as goal

abbrev pub invariant-loop-r : goal.invariant-loop-r
invariant-loop-r g l =
    Begun (laid l.initial.self) l.self.cells.now l.pending l.stage.value l.r-index ×
    ((σ : Sheet g.row.V.Denot) → Settled (laid l.initial.self) l.initial.self.cells.now σ (l.stage.value - 1) → Settled (laid l.initial.self) l.self.cells.now σ (l.stage.value - 1)) ×
    Untouched (laid l.initial.self) l.initial.self.cells.now l.self.cells.now × Stays l.initial.self l.self × (length l.pending ≡ 256)
