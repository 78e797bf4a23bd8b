-- Hexadecimal digits, the letters small.
use Rattle.std.specs.Prelude.{ℕ, zero, suc, ◌+◌, ◌/◌, ◌%◌, cond, List, [], ◌∷◌, ◌++◌, nat_lt}

-- The character of a digit below 16.
abbrev pub hex_digit : ℕ → ℕ
hex_digit d = cond (nat_lt d 10) (48 + d) (87 + d)

-- The last k digits of n.
abbrev pub hex_text : ℕ → ℕ → List ℕ
hex_text zero n = []
hex_text (suc k) n = hex_text k (n / 16) ++ (hex_digit (n % 16) ∷ [])

-- The sixteen digits of a word of 64 bits.
unfoldable pub bits_text : ℕ → List ℕ
bits_text n = hex_text 16 n
