-- What fills in a table.
use Rattle.std.proofs.Common.{◌≡◌, ℕ, ◌+◌, ◌*◌, ◌<◌, ◌≤◌, eqb, List, length, get_or, take, set, sum, sym, ◌∙◌, subst, arith}
use native.Mathlib.Decide.{ℕ_discrete}
use Rattle.std.proofs.lemmas.List.{get_or-set_same, get_or-set_other, length-take-le, get_or-take}
use Rattle.std.specs.List.{IsDistinct}
use Rattle.std.proofs.lemmas.Bool.{eqb-false}
use Rattle.std.proofs.lemmas.Map.Keys.{apart_from_distinct}
use Rattle.std.proofs.lemmas.Grind.{get_or_default_zero}
use Rattle.std.proofs.lemmas.List.Elements.{All-from_all_within}
use Rattle.std.proofs.lemmas.List.Sums.{sum_by-le}
use Rattle.table.specs.Tables.{Greatest, Inverse}
use Rattle.table.specs.Orders.{Listed}

-- The greatest of a front part.
pub greatest-first : (xs : List ℕ) (n most : ℕ) → n ≤ length xs → Greatest (take n xs) (length (take n xs)) most → Greatest xs n most
greatest-first xs n most h g =
    let long = length-take-le n xs h in
    record {
      some = (g.some.0, omega (arith, long, g.some.1), sym (get_or-take n xs g.some.0 0 (omega (arith, long, g.some.1))) ∙ g.some.2);
      every = λ k l. omega (arith, get_or-take n xs k 0 l, g.every k (omega (arith, long)));
    }

-- A sum of small numbers.
pub sum-low : (b : ℕ) (xs : List ℕ) → ((k : ℕ) → get_or xs k 0 ≤ b) → sum xs ≤ length xs * b
sum-low b xs low =
    sum_by-le (λ x. x) b xs (All-from_all_within (λ x. x ≤ b) xs (λ k d a h. omega (arith, get_or_default_zero xs k d h, low k)))

-- One more row has its position.
pub inverse-more : (order positions : List ℕ) (i : ℕ) → Listed order → IsDistinct eqb order → length order ≤ length positions → i < length order
    → Inverse order positions i → Inverse order (set positions (get_or order i 0) i) (i + 1)
inverse-more order positions i listed distinct room h below k l = elim (ℕ_discrete k i) [
  | yes q ↦ subst (λ (m : ℕ). get_or (set positions (get_or order i 0) i) (get_or order m 0) 0 ≡ m) (sym q)
      (get_or-set_same positions (get_or order i 0) i 0 (omega (arith, listed.below i h)))
  | no n ↦ get_or-set_other positions (get_or order i 0) (get_or order k 0) i 0
      (eqb-false _ _ (apart_from_distinct eqb order k i 0 distinct (omega (arith, n)) h)) ∙ below k (omega (arith, n))
]
