-- Numbers and places of refusals.
use Rattle.std.specs.Prelude.{ℕ}
use Rattle.engine.specs.Refusals as Calls
use Rattle.format.specs.declared.lines.Refused.{Refused}
use Rattle.load.specs.Refusals as Texts
use Rattle.source.specs.Recordings as Recordings
use Rattle.listing.specs.declared.refusal.Refusal as Own
use Rattle.listing.specs.declared.refusal.Refusal.TheVariants.{Text, Recording, Run}

-- The number of a refusal.
abbrev pub number_of : Own.Refusal → ℕ
number_of (Text r) = Texts.number r
number_of (Recording e) = Recordings.number_of e
number_of (Run r) = Calls.number_of r

-- The place of a refusal, which is 0 for a call of the run.
abbrev pub place_of : Own.Refusal → ℕ
place_of (Text r) = Texts.place r
place_of (Recording e) = Recordings.place_of e
place_of (Run r) = 0

-- A refusal as it is printed.
abbrev pub refused : Own.Refusal → Refused
refused r = record { number = number_of r; place = place_of r }
