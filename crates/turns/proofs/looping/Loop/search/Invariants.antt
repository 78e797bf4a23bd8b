use Rattle.std.proofs.Common.{◌+◌, ◌-◌}
use Rattle.theory.specs.Rule.{Sheet, Fits}
use Rattle.turns.specs.Holds.{Holds, Settled}
use Rattle.turns.specs.Loops.{laid, Stays}
use Rattle.turns.specs.Searches.{Seeking}
use Rattle.turns.specs.Ticks.{Untouched}
use Rattle.turns.proofs.looping.Loop.search.Given as goal

abbrev pub invariant-loop-t : goal.invariant-loop-t
invariant-loop-t g l =
    let laid-out = laid l.fn.self in
    let k = g.V.Kind.meaning in
    let stage = l.stage.value in
    ((σ : Sheet g.row.V.Denot) → Fits laid-out.rows k (g.S.Source.meaning l.source).says l.horizon σ →
    Settled laid-out l.fn.self.cells.now σ (stage - 1) →
    Holds laid-out l.self.cells.now σ (stage - 1) (l.t + laid-out.lag) ×
    Seeking laid-out k l.self.cells.now σ l.pending stage 0 l.t) ×
    Untouched laid-out l.fn.self.cells.now l.self.cells.now × Stays l.fn.self l.self
