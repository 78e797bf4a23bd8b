-- The hexadecimal digits of a word are those of its bytes.
use Rattle.std.proofs.Common.{◌≡◌, ℕ, zero, suc, ◌*◌, ◌/◌, ◌%◌, ◌^◌, ◌<◌, ◌==◌, ◌&&◌, Bool, true, List, [], ◌∷◌, ◌++◌, refl, sym, ap, ◌∙◌, inl, inr, append_assoc, arith, slice_index}
use Rattle.std.proofs.lemmas.Bool.{and_parts, cases_lt, eqb-true}
use Rattle.std.proofs.lemmas.Bool.Decides.{nat_tests}
use Rattle.std.proofs.lemmas.Str.{IsUtf8-from_ascii}
use Rattle.std.proofs.lemmas.Str.Ascii.{IsAscii-nil, IsAscii-push}
use Rattle.std.proofs.Math.Nat.{div-div-eq-div-mul, pow-succ'}
use Rattle.std.specs.Int.{byte_at, bytes_high_first}
use Rattle.std.specs.Str.{IsAscii, IsUtf8}
use Rattle.hex.specs.Hex.{encode_with, lower_digits}
use Rattle.text.specs.Hexadecimal.{hex_digit, hex_text, bits_text}

-- Whether the first n digits of the library's table are those of this crate.
abbrev same : ℕ → Bool
same zero = true
same (suc n) = (slice_index lower_digits n == hex_digit n) && same n

digits-same : (n d : ℕ) → same n ≡ true → d < n → slice_index lower_digits d ≡ hex_digit d
digits-same zero d t h = absurd (omega arith)
digits-same (suc n) d t h =
    let parts = and_parts (slice_index lower_digits n == hex_digit n) (same n) t in
    elim (cases_lt d n) [
      | inl below ↦ digits-same n d parts.1 below
      | inr top ↦
          let e : d ≡ n = omega arith in
          rw e (eqb-true (slice_index lower_digits n) (hex_digit n) parts.0)
    ]

digit : (d : ℕ) → d < 16 → slice_index lower_digits d ≡ hex_digit d
digit d h = digits-same 16 d refl h

byte-shift : (k n : ℕ) → byte_at (suc k) n ≡ byte_at k (n / 256)
byte-shift zero n = refl
byte-shift (suc k) n =
    let worth : 256 ^ suc (suc k) ≡ 256 * 256 ^ suc k = pow-succ' 256 (suc k) in
    rw (worth, div-div-eq-div-mul n 256 (256 ^ suc k))

bytes-more : (k n : ℕ) → bytes_high_first (suc k) n ≡ bytes_high_first k (n / 256) ++ ((n % 256) ∷ [])
bytes-more zero n = refl
bytes-more (suc k) n = ap (λ (b : ℕ). b ∷ bytes_high_first (suc k) n) (byte-shift k n) ∙ ap (λ (l : List ℕ). byte_at k (n / 256) ∷ l) (bytes-more k n)

encode-append : (t xs ys : List ℕ) → encode_with t (xs ++ ys) ≡ encode_with t xs ++ encode_with t ys
unfolding encode_with
encode-append t [] ys = refl
encode-append t (x ∷ xs) ys = ap (λ (l : List ℕ). slice_index t (x / 16) ∷ slice_index t (x % 16) ∷ l) (encode-append t xs ys)

abbrev twice : ℕ → ℕ
twice zero = zero
twice (suc k) = suc (suc (twice k))

-- The two digits of the lowest byte.
lowest : (n : ℕ) → encode_with lower_digits ((n % 256) ∷ []) ≡ hex_digit (n / 16 % 16) ∷ hex_digit (n % 16) ∷ []
unfolding encode_with
lowest n =
    let high : n % 256 / 16 ≡ n / 16 % 16 = omega arith in
    let low : n % 256 % 16 ≡ n % 16 = omega arith in
    rw (high, low, digit (n / 16 % 16) (omega arith), digit (n % 16) (omega arith))

encoded : (k n : ℕ) → encode_with lower_digits (bytes_high_first k n) ≡ hex_text (twice k) n
unfolding encode_with
encoded zero n = refl
encoded (suc k) n =
    let front : n / 256 ≡ n / 16 / 16 = omega arith in
    ap (encode_with lower_digits) (bytes-more k n) ∙ encode-append lower_digits (bytes_high_first k (n / 256)) ((n % 256) ∷ [])
    ∙ ap (λ (l : List ℕ). l ++ encode_with lower_digits ((n % 256) ∷ [])) (encoded k (n / 256) ∙ ap (hex_text (twice k)) front)
    ∙ ap (λ (l : List ℕ). hex_text (twice k) (n / 16 / 16) ++ l) (lowest n)
    ∙ sym (append_assoc (hex_text (twice k) (n / 16 / 16)) (hex_digit (n / 16 % 16) ∷ []) (hex_digit (n % 16) ∷ []))

-- The eight bytes of a word, encoded.
pub encoded_word : (n : ℕ) → encode_with lower_digits (bytes_high_first 8 n) ≡ bits_text n
unfolding bits_text
encoded_word n = encoded 8 n

digit-small : (d : ℕ) → d < 16 → hex_digit d < 128
digit-small d h = grind (arith, nat_tests)

hex-ascii : (k n : ℕ) → IsAscii (hex_text k n)
hex-ascii zero n = IsAscii-nil
hex-ascii (suc k) n = IsAscii-push (hex_text k (n / 16)) (hex_digit (n % 16)) (hex-ascii k (n / 16)) (digit-small (n % 16) (omega arith))

pub bits-utf8 : (n : ℕ) → IsUtf8 (bits_text n)
unfolding bits_text
bits-utf8 n = IsUtf8-from_ascii (hex_text 16 n) (hex-ascii 16 n)
