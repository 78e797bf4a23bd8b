-- The cells of the windows.
use Rattle.std.proofs.Common.{ℕ, ◌+◌, ◌/◌, ◌%◌, ◌<◌, ◌≢◌, length, inl, inr, mod-lt, mul-le-mul_left, mul-suc, arith}
use native.Mathlib.Nat.{div-add-mod}
use Rattle.std.proofs.lemmas.Bool.{cases_lt}
use Rattle.table.specs.Layout.{Layout, Planned, place_at}
use Rattle.turns.specs.Holds.{slot}

module _ (l : Layout) (p : Planned l) (r : ℕ) (is : r < length l.rows) (t : ℕ) where
  pub slot-below : slot (place_at l r) t < (place_at l r).start + (place_at l r).depth
  slot-below = let m = mod-lt t (p.deep r is) in omega arith

  pub slot-inside : slot (place_at l r) t < l.windows
  slot-inside = let m = mod-lt t (p.deep r is) in let i = p.inside r is in omega arith

  pub slot_fits : slot (place_at l r) t < l.size
  slot_fits = let m = slot-inside in let f = p.fits in omega arith

-- Two ticks less than a depth apart have cells of their own.
pub apart : (d u t : ℕ) → u < t → t < u + d → u % d ≢ t % d
apart d u t lt near e =
    let a = div-add-mod u d in
    let b = div-add-mod t d in
    elim (cases_lt (u / d) (t / d)) [
      | inl h ↦ let m = mul-le-mul_left d h in let k = mul-suc d (u / d) in omega arith
      | inr h ↦ let m = mul-le-mul_left d h in omega arith
    ]

-- Windows of two rows share no cell.
pub slots-differ : (l : Layout) → Planned l → (r q : ℕ) → r < length l.rows → q < length l.rows → r ≢ q →
    (t u : ℕ) → slot (place_at l r) t ≢ slot (place_at l q) u
slots-differ l p r q ir iq ne t u e =
    let a = slot-below l p r ir t in
    let b = slot-below l p q iq u in
    elim (cases_lt r q) [
      | inl h ↦ let s = p.apart r q h iq in omega arith
      | inr h ↦ let lt : q < r = omega arith in let s = p.apart q r lt ir in omega arith
    ]
