-- What a source means.
use Rattle.std.specs.Prelude.{◌≡◌, ℕ, ◌<◌, ◌≤◌, ◌⊎◌, Err, Result, ◌≢◌}
use Rattle.reading.specs.declared.faults.SourceFault.{SourceFault}
use Rattle.reading.specs.declared.faults.SourceFault.TheVariants.{Ended}

-- The counts of a source over the values V, and what it says of a channel at a tick.
pub record Meaning (V : Type 0) : Type 0 where
  pub channels : ℕ
  pub ticks : ℕ
  pub says : ℕ → ℕ → Result V SourceFault

-- It has ended for just the channels and ticks that do not lie below the counts.
pub record Lawful {V : Type 0} (m : Meaning V) : Type 0 where
  pub past : (c t : ℕ) → (m.channels ≤ c) ⊎ (m.ticks ≤ t) → m.says c t ≡ Err Ended
  pub within : (c t : ℕ) → c < m.channels → t < m.ticks → m.says c t ≢ Err Ended
