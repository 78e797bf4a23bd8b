-- Heights and stages rank the places: the stage first, and then the height with the tick.
use Rattle.std.proofs.Common.{◌≡◌, ℕ, zero, suc, ◌+◌, ◌*◌, ◌<◌, ◌≤◌, List, length, refl, mul-le-mul_left, mul-suc, add-one, arith}
use Rattle.std.specs.List.{ContainsAt as Has, AllByRecursion}
use Rattle.std.proofs.ByRecursion.{all_has_itself}
use Rattle.reading.specs.declared.rows.Row.{Row}
use Rattle.reading.specs.declared.rows.Row.TheVariants.{Literal, Truth, Channel, Same, First, Next, Fby, Asa, If, And, Or, Not, Negate, Compute, Relate}
use Rattle.theory.specs.Rule.{row_at}
use Rattle.theory.specs.Rank.{EachRead}
use Rattle.theory.specs.Potential.{Label, level, ahead, back, beyond, edges, Down, Potential, PotentialRanks, Carried, LeadsBound, KeyOrders, Spans, EdgesCover}

-- What follows of the row read along each label holds of each place that is read at tick t.
module _ (H t : ℕ) (E : Label → ℕ → Type 0) (P : ℕ → ℕ → Type 0) (at_level : (x s : ℕ) → s ≤ t → E level x → P x s)
    (at_ahead : (x : ℕ) → E ahead x → P x (t + 1)) (at_back : (x s : ℕ) → t ≡ suc s → E back x → P x s)
    (at-beyond : (x s : ℕ) → s < H → E beyond x → P x s) where
  now : (x : ℕ) → E level x → P x t
  now x e = at_level x t (omega arith) e

  followed : (x y s : ℕ) → t ≡ s → AllByRecursion (λ e. E e.0 e.1) (edges (Fby x y)) → EachRead H P (Fby x y) s
  followed x y zero h e = at_level x 0 (omega arith) e.0
  followed x y (suc s) h e = at_back y s h e.1.0

  pub reads : (row : Row) → AllByRecursion (λ e. E e.0 e.1) (edges row) → EachRead H P row t
  reads (Literal n) e = tt
  reads (Truth b) e = tt
  reads (Channel c) e = tt
  reads (Same x) e = now x e.0
  reads (First x) e = at_level x 0 (omega arith) e.0
  reads (Next x) e = at_ahead x e.0
  reads (Fby x y) e = followed x y t refl e
  reads (Asa x y) e = λ s h. (at-beyond x s h e.0, at-beyond y s h e.1.0)
  reads (If c x y) e = (now c e.0, now x e.1.0, now y e.1.1.0)
  reads (And x y) e = (now x e.0, now y e.1.0)
  reads (Or x y) e = (now x e.0, now y e.1.0)
  reads (Not x) e = now x e.0
  reads (Negate x) e = now x e.0
  reads (Compute o x y) e = (now x e.0, now y e.1.0)
  reads (Relate o x y) e = (now x e.0, now y e.1.0)

module _ (table : List Row) (p : Potential table) (H : ℕ) where
  -- what a stage outweighs: every height at every tick below H
  unfoldable pub span : ℕ
  span = p.tick * H + p.top

  unfoldable pub rank : ℕ → ℕ → ℕ
  rank r t = span * p.stage r + (p.tick * t + p.height r)

  abbrev Edge : ℕ → Label → ℕ → Type 0
  Edge a l x = (x < length table) × Down p.tick p.height p.stage a l x

  abbrev Lower : ℕ → ℕ → ℕ → ℕ → Type 0
  Lower a t x s = (x < length table) × (rank x s < rank a t)

  pub falls : (a t : ℕ) (row : Row) → AllByRecursion (λ e. Edge a e.0 e.1) (edges row) → EachRead H (Lower a t) row t
  unfolding rank span
  falls a t =
      reads H t (Edge a) (Lower a t)
      (λ x s h e. (e.0, omega (arith, mul-le-mul_left span e.1.0, mul-le-mul_left p.tick h)))
      (λ x e. (e.0, rw (add-one, mul-suc) (omega (arith, mul-le-mul_left span e.1.0))))
      (λ x s h e. (e.0, rw (h, mul-suc) (omega (arith, mul-le-mul_left span e.1.0))))
      (λ x s h e. (e.0, omega (arith, mul-suc span (p.stage x), mul-le-mul_left span e.1, mul-le-mul_left p.tick h, p.under x e.0)))

unfoldable pub potential-ranks : PotentialRanks
potential-ranks table p H = record { rank = rank table p H; falls = λ r h t. falls table p H r t (row_at table r) (p.down r h) }

pub leads-bound : LeadsBound
leads-bound lead row r H t c h l =
    reads H t (Carried lead r) (λ x s. s < H + lead x) (λ x s g e. omega arith) (λ x e. omega arith) (λ x s g e. omega arith) (λ x s g e. omega arith) row c

pub key-orders : KeyOrders
key-orders m height stage lead a level x d e = rw e (omega (arith, d.1))
key-orders m height stage lead a ahead x d e = rw (e, add-one, mul-suc) (omega (arith, d.1))
key-orders m height stage lead a back x d e = rw (e, add-one, mul-suc) (omega (arith, d.1))
key-orders m height stage lead a beyond x d e = absurd e

pub edges-cover : EdgesCover
edges-cover row H t =
    reads H t (λ l x. Has (edges row) (l, x)) (λ x s. (l : Label) × Has (edges row) (l, x) × Spans H t l s) (λ x s h e. (level, e, h))
    (λ x e. (ahead, e, refl)) (λ x s h e. (back, e, omega arith)) (λ x s h e. (beyond, e, h)) row (all_has_itself (edges row))
