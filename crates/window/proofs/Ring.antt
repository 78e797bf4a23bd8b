use Rattle.std.proofs.Common.{◌≡◌, ℕ, ◌+◌, ◌/◌, ◌%◌, ◌<◌, ◌≢◌, List, [], ◌∷◌, ◌++◌, length, set, sym, ◌∙◌, mod-lt, mul-le-mul_left, mul-suc, arith, length-append, length-set, get_or-set_other, get_or-set_same}
use native.Mathlib.Nat.{div-add-mod}
use native.Mathlib.Decide.{dec_lt}
use Rattle.std.proofs.lemmas.List.{get_or_append_left, get_or_at}
use Rattle.window.specs.Windows.{Holds}

-- two ticks less than a depth apart have cells of their own
pub apart : (d k n : ℕ) → k < n → n < k + d → k % d ≢ n % d
apart d k n lt near e =
    let a = div-add-mod k d in
    let b = div-add-mod n d in
    elim (dec_lt (k / d) (n / d)) [
      | yes up ↦ (let m = mul-le-mul_left d up in let s = mul-suc d (k / d) in omega arith)
      | no down ↦ (let m = mul-le-mul_left {m = n / d} {n = k / d} d (omega arith) in omega arith)
    ]

-- The entry of tick n, put into the cell i of its window.
module _ {A : Type 0} (cells history : List A) (i n : ℕ) (x : A) (p : 0 < length cells) (at : i ≡ n % length cells) (ln : length history ≡ n) (h : Holds cells history) where
  pub pushed : Holds (set cells i x) (history ++ x ∷ [])
  pushed k d lt near =
      let l = length-append history (x ∷ []) in
      let s = length-set cells i x in
      let m : n % length cells < length cells = mod-lt n p in
      elim (dec_lt k n) [
        | yes old ↦
            (let ne : k % length cells ≢ n % length cells = apart (length cells) k n old (omega arith) in
            rw s (rw at (rw get_or-set_other (h k d (omega arith) (omega arith) ∙ sym (get_or_append_left history (x ∷ []) d k (omega arith))))))
        | no new ↦
            (let e : k ≡ n = omega arith in
            rw (s, e, at, get_or-set_same) (sym (get_or_at history x [] d n ln)))
      ]
