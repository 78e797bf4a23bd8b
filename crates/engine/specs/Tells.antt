-- What a run's fields and cells hold after the calls of a record.
use Rattle.std.specs.Prelude.{◌≡◌, ◌+◌, ◌-◌, ◌<◌, ◌≤◌, List, ◌∷◌, length, Some, None, MatchOption}
use Rattle.reading.specs.Faults.{Reading}
use Rattle.kind.specs.Kinds.{Meaning}
use Rattle.theory.specs.Says.{Says}
use Rattle.theory.specs.Rule.{Sheet, Fits}
use Rattle.table.specs.Layout.{Layout}
use Rattle.table.specs.Tables.{layout}
use Rattle.turns.specs.Holds.{Holds, Settled}
use Rattle.turns.specs.Ticks.{Untouched}
use Rattle.engine.specs.declared.progress.Progress.{Progress}
use Rattle.engine.specs.declared.run.Run.{Run}
use Rattle.engine.specs.declared.calls.Call.{Call}
use Rattle.engine.specs.Law.{Past, Reply, horizon_of, left_of, steps_of, Right}

-- The table as the loop sees it.
abbrev pub laid : {V : Type 0} → Run V → Layout
laid run = layout run.table.now.schedule

-- The progress p is at the end of the record, and the cells hold what every sheet that fits has there.
pub record Goes {V : Type 0} (k : Meaning V) (says : Says V) (l : Layout) (cells : List (Reading V)) (p : Progress) (past : Past V) : Type 0 where
  pub horizon : horizon_of past ≡ Some p.horizon
  pub left : l.stages - p.settled ≡ left_of l past
  pub made : steps_of past ≡ p.made
  pub low : p.settled ≤ l.stages
  pub done : 0 < p.made → l.stages ≤ p.settled
  pub settled : (σ : Sheet V) → Fits l.rows k says p.horizon σ → Settled l cells σ p.settled
  pub holds : (σ : Sheet V) → Fits l.rows k says p.horizon σ → 0 < p.made → Holds l cells σ l.stages (p.made + l.lag)

-- Without progress no horizon is in force, no stage is settled and no tick is made.
pub record Rests {V : Type 0} (l : Layout) (past : Past V) : Type 0 where
  pub horizon : horizon_of past ≡ None
  pub left : left_of l past ≡ l.stages
  pub made : steps_of past ≡ 0

-- The run is at the end of the record.
abbrev pub Tells : {V : Type 0} → Meaning V → Says V → Run V → Past V → Type 0
Tells k says run past = MatchOption run.progress (Rests (laid run) past) (λ p. Goes k says (laid run) run.cells.now p past)

-- The reply to a call is right after every record that the run tells, and then the run tells the record with it.
abbrev pub Lawful : {V : Type 0} → Meaning V → Says V → Run V → Run V → Call → Reply V → Type 0
Lawful {V} k says before after call a =
    (past : Past V) → Tells k says before past →
    Right (laid before) k says (length before.cells.now) past call a × Tells k says after (record { call = call; reply = a } ∷ past)

-- The same of a call after which the run may be shown another source.
abbrev pub Renewed : {V : Type 0} → Meaning V → Says V → Says V → Run V → Run V → Call → Reply V → Type 0
Renewed {V} k says says' before after call a =
    (past : Past V) → Tells k says before past →
    Right (laid before) k says (length before.cells.now) past call a × Tells k says' after (record { call = call; reply = a } ∷ past)

-- The run stays over its table and cells, and no cell past those of the table has changed.
pub record Stays {V : Type 0} (before after : Run V) : Type 0 where
  pub table : after.table ≡ before.table
  pub room : length after.cells.now ≡ length before.cells.now
  pub beyond : Untouched (laid before) before.cells.now after.cells.now
