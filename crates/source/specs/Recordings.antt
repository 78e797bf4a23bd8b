-- The bytes of a recording: what they mean, and which bytes are none.
use Rattle.std.specs.Prelude.{ℕ, zero, suc, ◌+◌, ◌*◌, cond, not, ◌&&◌, ◌||◌, List, [], ◌∷◌, length, take, drop, Some, None, Ok, Err, Option, Result, ◌==◌, nat_lt, slice_index}
use Rattle.std.specs.Int.Digits.{number_from_digits}
use Rattle.reading.specs.declared.faults.SourceFault.{SourceFault}
use Rattle.reading.specs.declared.faults.SourceFault.TheVariants.{Ended, Gap, OutOfRange}
use Rattle.kind.specs.Kinds as Kinds
use Rattle.source.specs.declared.format.Counts.{Counts}
use Rattle.source.specs.declared.format.RecordingError.{RecordingError}
use Rattle.source.specs.declared.format.RecordingError.TheVariants.{Header, Mark, Length}
use Rattle.source.specs.declared.format.RecordedKind.{RecordedKind}
use Rattle.source.specs.declared.format.RecordedKind.TheVariants.{Whole, Rate}
use Rattle.source.specs.Sources.{Meaning}

-- The code of a kind.
abbrev pub code_of : RecordedKind → ℕ
code_of Whole = 0
code_of Rate = 1

-- The number of a refusal, and its place.
abbrev pub number_of : RecordingError → ℕ
number_of (Header p) = 10
number_of (Mark p) = 11
number_of (Length p) = 12

abbrev pub place_of : RecordingError → ℕ
place_of (Header p) = p
place_of (Mark p) = p
place_of (Length p) = p

-- The kind that a code tells.
abbrev pub told : ℕ → Result RecordedKind RecordingError
told code = cond (code == 0) (Ok Whole) (cond (code == 1) (Ok Rate) (Err (Header 0)))

-- Where the bytes of a tick begin, with its mark.
abbrev pub start : Counts → ℕ → ℕ
start n t = 6 + t * (1 + 8 * n.channels)

-- The eight bytes of a word.
abbrev pub word_at : List ℕ → ℕ → List ℕ
word_at bytes at =
    slice_index bytes at ∷ slice_index bytes (at + 1) ∷ slice_index bytes (at + 2) ∷ slice_index bytes (at + 3) ∷ slice_index bytes (at + 4) ∷ slice_index bytes (at + 5) ∷ slice_index bytes (at + 6) ∷ slice_index bytes (at + 7) ∷ []

-- How long a recording of these counts is.
abbrev pub size_of : Counts → ℕ
size_of n = start n n.ticks

-- The tick count that the header says.
abbrev pub ticks_of : List ℕ → ℕ
ticks_of bytes = number_from_digits 256 (take 4 (drop 2 bytes))

-- The header of a recording of the kind with that code: its counts, or the first field that is not as it should be.
abbrev pub counted : ℕ → List ℕ → Result Counts RecordingError
counted code bytes =
    cond (nat_lt (length bytes) 6) (Err (Header (length bytes)))
    (cond (not (slice_index bytes 0 == code)) (Err (Header 0))
    (cond (nat_lt (slice_index bytes 1) 1 || nat_lt 8 (slice_index bytes 1)) (Err (Header 1))
    (cond (nat_lt 100000 (ticks_of bytes)) (Err (Header 2))
    (Ok (record { channels = slice_index bytes 1; ticks = ticks_of bytes })))))

-- The least of the d ticks from t on whose mark is neither 0 nor 1.
abbrev pub first_bad : List ℕ → Counts → ℕ → ℕ → Option ℕ
first_bad bytes n t zero = None
first_bad bytes n t (suc d) = cond (nat_lt 1 (slice_index bytes (start n t))) (Some t) (first_bad bytes n (suc t) d)

-- The counts, or the refusal of a mark.
abbrev pub marked : List ℕ → Counts → Option ℕ → Result Counts RecordingError
marked bytes n None = Ok n
marked bytes n (Some t) = Err (Mark (start n t))

-- Bytes of the length that the counts say, with good marks.
abbrev pub sized : List ℕ → Result Counts RecordingError → Result Counts RecordingError
sized bytes (Err e) = Err e
sized bytes (Ok n) = cond (length bytes == size_of n) (marked bytes n (first_bad bytes n 0 n.ticks)) (Err (Length (length bytes)))

-- The counts of a recording of the kind with that code, or the first thing that is wrong with it.
abbrev pub checked : ℕ → List ℕ → Result Counts RecordingError
checked code bytes = sized bytes (counted code bytes)

-- What a word says: its value, or that it stands for none.
abbrev pub heard : {V : Type 0} → Option V → Result V SourceFault
heard (Some v) = Ok v
heard None = Err OutOfRange

-- What a recording of these counts means: below them a gap where the mark is 0, and else what the word says.
abbrev pub recorded : {V : Type 0} → Kinds.Meaning V → List ℕ → Counts → Meaning V
recorded k bytes n =
    record {
      channels = n.channels;
      ticks = n.ticks;
      says = λ c t.
          cond (nat_lt c n.channels && nat_lt t n.ticks)
          (cond (slice_index bytes (start n t) == 0) (Err Gap) (heard (k.word (word_at bytes (start n t + 1 + 8 * c)))))
          (Err Ended);
    }
