use Rattle.engine.specs.Tells.{Stays, laid}
use Rattle.text.specs.Pushed.{Pushed}
use Rattle.theory.specs.Rule.{Sheet, Fits}
use Rattle.report.specs.Reports.{lines_text}
use Rattle.report.specs.Runs.{Going}
use Rattle.report.proofs.ticks.push_ticks.Given as goal

abbrev pub invariant-loop : goal.invariant-loop
invariant-loop g l =
    Stays l.initial.run l.run ×
    ((σ : Sheet g.row.K.Denot) → Fits (laid l.initial.run).rows g.K.Kind.meaning (g.S.Source.meaning l.source).says l.horizon σ →
    Going g.K.Kind.meaning (g.S.Source.meaning l.source).says l.initial.run l.horizon 0 0 →
    Going g.K.Kind.meaning (g.S.Source.meaning l.source).says l.run l.horizon 0 l.counter ×
    Pushed l.initial.out l.out (lines_text g.K.Shown.text (σ (laid l.initial.run).result) l.counter))
