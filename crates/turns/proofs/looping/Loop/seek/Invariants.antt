use Rattle.std.proofs.Common.{ℕ, ◌+◌, ◌-◌, ◌<◌}
use Rattle.theory.specs.Says.{Says}
use Rattle.theory.specs.Rule.{Sheet, Fits}
use Rattle.turns.specs.Holds.{Holds}
use Rattle.turns.specs.Loops.{laid, Stays}
use Rattle.turns.specs.Searches.{Seeking}
use Rattle.turns.specs.Ticks.{Untouched}
use Rattle.turns.proofs.looping.Loop.seek.Given as goal

abbrev pub invariant-loop-r : goal.invariant-loop-r
invariant-loop-r g l =
    let laid-out = laid l.initial.self in
    let k = g.V.Kind.meaning in
    let stage = l.stage.value in
    ((says : Says g.row.V.Denot) (H : ℕ) (σ : Sheet g.row.V.Denot) → Fits laid-out.rows k says H σ → l.t < H →
    Holds laid-out l.initial.self.cells.now σ (stage - 1) (l.t + laid-out.lag + 1) →
    Seeking laid-out k l.initial.self.cells.now σ l.initial.pending stage 0 l.t →
    Holds laid-out l.self.cells.now σ (stage - 1) (l.t + laid-out.lag + 1) ×
    Seeking laid-out k l.self.cells.now σ l.pending stage l.r-index l.t) ×
    Untouched laid-out l.initial.self.cells.now l.self.cells.now × Stays l.initial.self l.self
