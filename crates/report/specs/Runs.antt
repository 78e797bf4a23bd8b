-- How far a run has come.
use Rattle.std.specs.Prelude.{◌≡◌, ℕ, Some}
use Rattle.kind.specs.Kinds.{Meaning}
use Rattle.theory.specs.Says.{Says}
use Rattle.engine.specs.declared.run.Run.{Run}
use Rattle.engine.specs.Law.{Past, horizon_of, left_of, steps_of}
use Rattle.engine.specs.Tells.{laid, Tells}

-- The run tells some record, after which H is the horizon in force, so many stages are left and so many ticks are made.
pub record Going {V : Type 0} (k : Meaning V) (says : Says V) (run : Run V) (H stages ticks : ℕ) : Type 0 where
  pub past : Past V
  pub tells : Tells k says run past
  pub horizon : horizon_of past ≡ Some H
  pub left : left_of (laid run) past ≡ stages
  pub made : steps_of past ≡ ticks
