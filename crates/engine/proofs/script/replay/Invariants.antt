use Rattle.std.proofs.Common.{◌≡◌, length, vec_items, vec_len}
use Rattle.engine.specs.Law.{record_of, AllRight}
use Rattle.engine.specs.Tells.{laid, Tells, Stays}
use Rattle.engine.proofs.script.replay.Given as goal

abbrev pub invariant-loop-call : goal.invariant-loop-call
invariant-loop-call g l =
    (vec_len l.replies ≡ l.call-index) × Stays l.initial.run l.run ×
    Tells g.V.Kind.meaning (g.S.Source.meaning l.source).says l.run (record_of l.calls (vec_items l.replies) l.call-index) ×
    AllRight (laid l.initial.run) g.V.Kind.meaning (g.S.Source.meaning l.source).says (length l.initial.run.cells.now) l.calls (vec_items l.replies) l.call-index
