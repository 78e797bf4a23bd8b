-- What a function that appends to a text promises.
use Rattle.std.specs.Prelude.{◌≡◌, ℕ, ◌+◌, ◌≤◌, List, ◌++◌, length, Ok, Err, Result, String, string_bytes, string_capacity}
use Rattle.std.specs.Result.{IsOk}
use Rattle.std.specs.declared.alloc.AllocError.{AllocError}
use Rattle.std.specs.declared.alloc.Global.{Global}
use Rattle.text.specs.declared.text.Text.{Text}

-- The bytes of a text.
abbrev pub bytes_of : Text → List ℕ
bytes_of t = string_bytes t.text

-- How many bytes a text has room for before it asks for memory.
abbrev pub room_of : Text → ℕ
room_of t = string_capacity t.text

-- The whole text, or the error of the append for which there was no memory.
abbrev pub whole_of : Text → Result (String Global) AllocError
whole_of t = elim t.kept [ Ok u ↦ Ok t.text | Err e ↦ Err e ]

-- The bytes bs were appended, unless memory ran out, which it does not where there is room. A text that is lost stays lost.
pub record Pushed (was now : Text) (bs : List ℕ) : Type 0 where
  pub bytes : IsOk now.kept → IsOk was.kept × (bytes_of now ≡ bytes_of was ++ bs)
  pub room : IsOk was.kept → length (bytes_of was) + length bs ≤ room_of was → IsOk now.kept
  pub capacity : room_of was ≤ room_of now
