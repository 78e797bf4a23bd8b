-- Which bytes are a recording, and what is wrong with those that are none.
use Rattle.std.specs.Prelude.{◌≡◌, ℕ, ◌<◌, ◌≤◌, ◌⊎◌, List, length, Ok, Err, Result, ◌≢◌, slice_index, slice_index_or}
use Rattle.source.specs.declared.format.Counts.{Counts}
use Rattle.source.specs.declared.format.RecordingError.{RecordingError}
use Rattle.source.specs.declared.format.RecordingError.TheVariants.{Header, Mark, Length}
use Rattle.source.specs.Recordings.{start, size_of, ticks_of}

-- The mark of a tick.
abbrev pub mark_at : List ℕ → Counts → ℕ → ℕ
mark_at bytes n t = slice_index bytes (start n t)

-- The header is whole, of the kind with that code, and says these counts, which lie within their limits.
pub record Heads (code : ℕ) (bytes : List ℕ) (n : Counts) : Type 0 where
  pub whole : 6 ≤ length bytes
  pub kind : slice_index_or bytes 0 0 ≡ code
  pub channels : n.channels ≡ slice_index bytes 1
  pub some_channel : 1 ≤ n.channels
  pub few_channels : n.channels ≤ 8
  pub ticks : n.ticks ≡ ticks_of bytes
  pub few_ticks : n.ticks ≤ 100000

-- What is to be answered of bytes that should be a recording of the kind with that code: its counts where header, length
-- and every mark are good; else the header's length or its earliest bad field, then the length, then the earliest bad mark.
pub data Opens (code : ℕ) (bytes : List ℕ) : Result Counts RecordingError → Type 0 where
  opened : (n : Counts) → Heads code bytes n → length bytes ≡ size_of n → ((t : ℕ) → t < n.ticks → mark_at bytes n t ≤ 1) → Opens code bytes (Ok n)
  cut_header : length bytes < 6 → Opens code bytes (Err (Header (length bytes)))
  other_kind : 6 ≤ length bytes → (slice_index bytes 0 ≢ code) → Opens code bytes (Err (Header 0))
  bad_channels : 6 ≤ length bytes → slice_index bytes 0 ≡ code → (slice_index bytes 1 < 1) ⊎ (8 < slice_index bytes 1) → Opens code bytes (Err (Header 1))
  bad_ticks : 6 ≤ length bytes → slice_index bytes 0 ≡ code → 1 ≤ slice_index bytes 1 → slice_index bytes 1 ≤ 8 → 100000 < ticks_of bytes → Opens code bytes (Err (Header 2))
  bad_length : (n : Counts) → Heads code bytes n → (length bytes ≢ size_of n) → Opens code bytes (Err (Length (length bytes)))
  bad_mark : (n : Counts) (t : ℕ) → Heads code bytes n → length bytes ≡ size_of n → t < n.ticks → 1 < mark_at bytes n t →
      ((k : ℕ) → k < t → mark_at bytes n k ≤ 1) → Opens code bytes (Err (Mark (start n t)))
