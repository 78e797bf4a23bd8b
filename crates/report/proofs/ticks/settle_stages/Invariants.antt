use Rattle.std.proofs.Common.{ℕ, ◌-◌}
use Rattle.engine.specs.Tells.{Stays}
use Rattle.report.specs.Runs.{Going}
use Rattle.report.proofs.ticks.settle_stages.Given as goal

abbrev pub invariant-loop : goal.invariant-loop
invariant-loop g l =
    Stays l.initial.run l.run ×
    ((H made : ℕ) → Going g.K.Kind.meaning (g.S.Source.meaning l.source).says l.initial.run H l.stages made →
    Going g.K.Kind.meaning (g.S.Source.meaning l.source).says l.run H (l.stages - l.counter) made)
