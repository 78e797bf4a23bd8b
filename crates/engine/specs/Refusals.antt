-- The numbers of refused calls.
use Rattle.std.specs.Prelude.{ℕ}
use Rattle.engine.specs.declared.calls.Refusal.{Refusal}
use Rattle.engine.specs.declared.calls.Refusal.TheVariants.{NoHorizon, Horizon, Cells, StageLeft, Over, Place}

-- The number of a refused call; its place is 0.
abbrev pub number_of : Refusal → ℕ
number_of NoHorizon = 13
number_of Horizon = 14
number_of Cells = 15
number_of StageLeft = 16
number_of Over = 17
number_of Place = 18
