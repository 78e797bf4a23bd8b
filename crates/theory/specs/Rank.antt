-- Tables that can be read from the bottom up: every read goes to a place of lesser rank.
use Rattle.std.specs.Prelude.{ℕ, zero, suc, ◌+◌, ◌<◌, List, length}
use Rattle.reading.specs.declared.rows.Row.{Row}
use Rattle.reading.specs.declared.rows.Row.TheVariants.{Literal, Truth, Channel, Same, First, Next, Fby, Asa, If, And, Or, Not, Negate, Compute, Relate}
use Rattle.theory.specs.Rule.{row_at}

-- P holds of each place, row and tick, that a row may read at tick t under the horizon H.
abbrev pub EachRead : ℕ → (ℕ → ℕ → Type 0) → Row → ℕ → Type 0
EachRead H P (Literal n) t = Unit
EachRead H P (Truth b) t = Unit
EachRead H P (Channel c) t = Unit
EachRead H P (Same x) t = P x t
EachRead H P (First x) t = P x 0
EachRead H P (Next x) t = P x (t + 1)
EachRead H P (Fby x y) zero = P x 0
EachRead H P (Fby x y) (suc t) = P y t
EachRead H P (Asa x y) t = (s : ℕ) → s < H → P x s × P y s
EachRead H P (If c x y) t = P c t × P x t × P y t
EachRead H P (And x y) t = P x t × P y t
EachRead H P (Or x y) t = P x t × P y t
EachRead H P (Not x) t = P x t
EachRead H P (Negate x) t = P x t
EachRead H P (Compute o x y) t = P x t × P y t
EachRead H P (Relate o x y) t = P x t × P y t

-- A rank of the places that falls along every read; each row that is read stands in the table.
pub record Ranked (table : List Row) (H : ℕ) : Type 0 where
  pub rank : ℕ → ℕ → ℕ
  pub falls : (r : ℕ) → r < length table → (t : ℕ) →
      EachRead H (λ x s. (x < length table) × (rank x s < rank r t)) (row_at table r) t
