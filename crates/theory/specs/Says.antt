-- What a source says, as the rules of rows take it.
use Rattle.std.specs.Prelude.{ℕ, Result}
use Rattle.reading.specs.declared.faults.SourceFault.{SourceFault}

-- What is said of each channel at each tick: a value, or what stands in its place.
abbrev pub Says : Type 0 → Type 0
Says V = ℕ → ℕ → Result V SourceFault
