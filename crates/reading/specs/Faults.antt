-- The numbers of the faults, and which of them a value kind or a source may answer.
use Rattle.std.specs.Prelude.{ℕ, Result}
use Rattle.reading.specs.declared.faults.Fault.{Fault}
use Rattle.reading.specs.declared.faults.FaultNumber.{FaultNumber}
use Rattle.reading.specs.declared.faults.FaultNumber.TheVariants as Number
use Rattle.reading.specs.declared.faults.KindFault.{KindFault}
use Rattle.reading.specs.declared.faults.KindFault.TheVariants as OfKind
use Rattle.reading.specs.declared.faults.SourceFault.{SourceFault}
use Rattle.reading.specs.declared.faults.SourceFault.TheVariants as OfSource

-- The number by which a fault is known.
abbrev pub number_of : FaultNumber → ℕ
number_of Number.Unreached = 1
number_of Number.Ended = 2
number_of Number.Gap = 3
number_of Number.WrongKind = 4
number_of Number.ZeroDivisor = 5
number_of Number.OutOfRange = 6

-- The fault of a row where the kind answers no value: 4 to 6.
abbrev pub of_kind : KindFault → FaultNumber
of_kind OfKind.WrongKind = Number.WrongKind
of_kind OfKind.ZeroDivisor = Number.ZeroDivisor
of_kind OfKind.OutOfRange = Number.OutOfRange

-- The fault of a row where the source says no value: 2, 3 or 6.
abbrev pub of_source : SourceFault → FaultNumber
of_source OfSource.Ended = Number.Ended
of_source OfSource.Gap = Number.Gap
of_source OfSource.OutOfRange = Number.OutOfRange

-- What a row reads at a tick: a value of any kind, or a fault.
abbrev pub Reading : Type 0 → Type 0
Reading V = Result V Fault
