-- The numbers and places of the refusals of a text.
use Rattle.std.specs.Prelude.{ℕ}
use Rattle.syntax.specs.declared.refusal.Refusal.{Refusal as ReadingRefusal}
use Rattle.syntax.specs.Judgement as reader
use Rattle.load.specs.declared.refusal.Refusal.{Refusal}
use Rattle.load.specs.declared.refusal.Refusal.TheVariants.{Reading, TooMany, Taken, NoResult, Undefined, Ring}

-- The number of a refusal.
abbrev pub number : Refusal → ℕ
number (Reading r) = reader.number r
number (TooMany p) = 5
number (Taken p) = 6
number (NoResult p) = 7
number (Undefined p) = 8
number Ring = 9

-- The byte of the text that a refusal is about.
abbrev pub place : Refusal → ℕ
place (Reading r) = reader.place r
place (TooMany p) = p
place (Taken p) = p
place (NoResult p) = p
place (Undefined p) = p
place Ring = 0

-- A refusal of the reader, with its number and place.
abbrev pub from_reading : ReadingRefusal → Refusal
from_reading r = Reading r
