-- What a source says with its gaps filled.
use Rattle.std.specs.Prelude.{ℕ, zero, suc, Ok, Err, Result}
use Rattle.reading.specs.declared.faults.SourceFault.{SourceFault}
use Rattle.reading.specs.declared.faults.SourceFault.TheVariants.{Ended, Gap, OutOfRange}
use Rattle.source.specs.Sources.{Meaning}

-- r, or s where r is a gap
abbrev pub unless_gap : {V : Type 0} → Result V SourceFault → Result V SourceFault → Result V SourceFault
unless_gap (Ok v) s = Ok v
unless_gap (Err Ended) s = Err Ended
unless_gap (Err Gap) s = s
unless_gap (Err OutOfRange) s = Err OutOfRange

-- What is said at the latest of the first n ticks that is no gap, and a gap where there is none.
abbrev pub latest : {V : Type 0} → (ℕ → Result V SourceFault) → ℕ → Result V SourceFault
latest said zero = Err Gap
latest said (suc n) = unless_gap (said n) (latest said n)

abbrev pub held : {V : Type 0} → Meaning V → Meaning V
held m = record { channels = m.channels; ticks = m.ticks; says = λ c t. unless_gap (m.says c t) (latest (m.says c) t) }
