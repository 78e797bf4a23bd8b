-- The numbers of a checked table, and what the loop needs of them.
use Rattle.std.specs.Prelude.{◌≡◌, ℕ, ◌+◌, ◌<◌, ◌≤◌, Bool, true, false, List, length, slice_index, slice_index_or}
use Rattle.std.specs.Coded.{le_prop}
use native.Mathlib.Nat.{ℕ_set}
use Rattle.reading.specs.declared.rows.Row.{Row}
use Rattle.reading.specs.declared.rows.Row.TheVariants.{Literal, Truth, Channel, Same, First, Next, Fby, Asa, If, And, Or, Not, Negate, Compute, Relate}
use Rattle.theory.specs.Rule.{row_at}
use Rattle.table.specs.declared.place.Place.{Place}

-- A plan without its references.
pub record Layout : Type 0 where
  pub rows : List Row
  pub places : List Place
  pub order : List ℕ
  pub lag : ℕ
  pub stages : ℕ
  pub result : ℕ
  pub windows : ℕ
  pub size : ℕ

abbrev pub no_place : Place
no_place = record { delay = 0; depth = 0; start = 0; stage = 0; position = 0; settled = 0 }

abbrev pub place_at : Layout → ℕ → Place
place_at l r = slice_index_or l.places r no_place

-- Where a row stands in the order of a turn.
abbrev pub position_at : Layout → ℕ → ℕ
position_at l r = (place_at l r).position

-- P holds of each finite edge of a row: the row that is read, with the label as ticks up and ticks down.
abbrev pub EachEdge : (ℕ → ℕ → ℕ → Type 0) → Row → Type 0
EachEdge P (Literal n) = Unit
EachEdge P (Truth b) = Unit
EachEdge P (Channel c) = Unit
EachEdge P (Same x) = P x 0 0
EachEdge P (First x) = P x 0 0
EachEdge P (Next x) = P x 1 0
EachEdge P (Fby x y) = P x 0 0 × P y 0 1
EachEdge P (Asa x y) = Unit
EachEdge P (If c x y) = P c 0 0 × P x 0 0 × P y 0 0
EachEdge P (And x y) = P x 0 0 × P y 0 0
EachEdge P (Or x y) = P x 0 0 × P y 0 0
EachEdge P (Not x) = P x 0 0
EachEdge P (Negate x) = P x 0 0
EachEdge P (Compute o x y) = P x 0 0 × P y 0 0
EachEdge P (Relate o x y) = P x 0 0 × P y 0 0

-- P holds of both sides, if the row is an `asa` row.
abbrev pub EachSide : (ℕ → Type 0) → Row → Type 0
EachSide P (Literal n) = Unit
EachSide P (Truth b) = Unit
EachSide P (Channel c) = Unit
EachSide P (Same x) = Unit
EachSide P (First x) = Unit
EachSide P (Next x) = Unit
EachSide P (Fby x y) = Unit
EachSide P (Asa x y) = P x × P y
EachSide P (If c x y) = Unit
EachSide P (And x y) = Unit
EachSide P (Or x y) = Unit
EachSide P (Not x) = Unit
EachSide P (Negate x) = Unit
EachSide P (Compute o x y) = Unit
EachSide P (Relate o x y) = Unit

abbrev pub is_asa : Row → Bool
is_asa (Literal n) = false
is_asa (Truth b) = false
is_asa (Channel c) = false
is_asa (Same x) = false
is_asa (First x) = false
is_asa (Next x) = false
is_asa (Fby x y) = false
is_asa (Asa x y) = true
is_asa (If c x y) = false
is_asa (And x y) = false
is_asa (Or x y) = false
is_asa (Not x) = false
is_asa (Negate x) = false
is_asa (Compute o x y) = false
is_asa (Relate o x y) = false

-- Row a reads row x, up ticks later and down ticks earlier: x is made by then and not yet overwritten,
-- and one that is read in the turn in which it is made comes before a.
pub record Edge (l : Layout) (position : ℕ → ℕ) (a x up down : ℕ) : Type 0 where
  pub row : x < length l.rows
  pub stage : (place_at l x).stage ≤ (place_at l a).stage
  pub made : (place_at l x).delay + up ≤ (place_at l a).delay + down
  pub kept : (place_at l a).delay + down < (place_at l x).delay + (place_at l x).depth + up
  pub before : (place_at l x).delay + up ≡ (place_at l a).delay + down → position x < position a

-- Row x is a side of the `asa` row a: of a lower stage, and kept until its tick is due.
pub record Side (l : Layout) (a x : ℕ) : Type 0 where
  pub row : x < length l.rows
  pub stage : (place_at l x).stage < (place_at l a).stage
  pub kept : l.lag < (place_at l x).delay + (place_at l x).depth

pub record Planned (l : Layout) : Type 0 where
  pub places : length l.places ≡ length l.rows
  -- the order has each row once
  pub listed : (r : ℕ) → r < length l.rows → (position_at l r < length l.order) × (slice_index l.order (position_at l r) ≡ r)
  pub ordered : (k : ℕ) → k < length l.order → (slice_index l.order k < length l.rows) × (position_at l (slice_index l.order k) ≡ k)
  pub edges : (r : ℕ) → r < length l.rows → EachEdge (Edge l (position_at l) r) (row_at l.rows r)
  pub sides : (r : ℕ) → r < length l.rows → EachSide (Side l r) (row_at l.rows r)
  pub delayed : (r : ℕ) → r < length l.rows → (place_at l r).delay ≤ l.lag
  pub staged : (r : ℕ) → r < length l.rows → (place_at l r).stage ≤ l.stages
  -- the windows lie one after another, and then the cells of the `asa` rows
  pub deep : (r : ℕ) → r < length l.rows → 0 < (place_at l r).depth
  pub apart : (r q : ℕ) → r < q → q < length l.rows → (place_at l r).start + (place_at l r).depth ≤ (place_at l q).start
  pub inside : (r : ℕ) → r < length l.rows → (place_at l r).start + (place_at l r).depth ≤ l.windows
  pub outside : (r : ℕ) → r < length l.rows → is_asa (row_at l.rows r) ≡ true → (l.windows ≤ (place_at l r).settled) × ((place_at l r).settled < l.size)
  pub alone : (r q : ℕ) → r < q → q < length l.rows → is_asa (row_at l.rows r) ≡ true → is_asa (row_at l.rows q) ≡ true → (place_at l r).settled < (place_at l q).settled
  pub fits : l.windows ≤ l.size
  -- the row of `result`
  pub result : l.result < length l.rows
  pub shown : l.lag < (place_at l l.result).delay + (place_at l l.result).depth
  pub short : l.lag ≤ 64

-- The facts of a plan have one proof each, so that a type can carry the plan.
each_edge_prop : (P : ℕ → ℕ → ℕ → Type 0) → ((x up down : ℕ) → IsProp (P x up down)) → (row : Row) → IsProp (EachEdge P row)
each_edge_prop P h (Literal n) = Prim.hlevel
each_edge_prop P h (Truth b) = Prim.hlevel
each_edge_prop P h (Channel c) = Prim.hlevel
each_edge_prop P h (Same x) = Prim.hlevel
each_edge_prop P h (First x) = Prim.hlevel
each_edge_prop P h (Next x) = Prim.hlevel
each_edge_prop P h (Fby x y) = Prim.hlevel
each_edge_prop P h (Asa x y) = Prim.hlevel
each_edge_prop P h (If c x y) = Prim.hlevel
each_edge_prop P h (And x y) = Prim.hlevel
each_edge_prop P h (Or x y) = Prim.hlevel
each_edge_prop P h (Not x) = Prim.hlevel
each_edge_prop P h (Negate x) = Prim.hlevel
each_edge_prop P h (Compute o x y) = Prim.hlevel
each_edge_prop P h (Relate o x y) = Prim.hlevel

each_side_prop : (P : ℕ → Type 0) → ((x : ℕ) → IsProp (P x)) → (row : Row) → IsProp (EachSide P row)
each_side_prop P h (Literal n) = Prim.hlevel
each_side_prop P h (Truth b) = Prim.hlevel
each_side_prop P h (Channel c) = Prim.hlevel
each_side_prop P h (Same x) = Prim.hlevel
each_side_prop P h (First x) = Prim.hlevel
each_side_prop P h (Next x) = Prim.hlevel
each_side_prop P h (Fby x y) = Prim.hlevel
each_side_prop P h (Asa x y) = Prim.hlevel
each_side_prop P h (If c x y) = Prim.hlevel
each_side_prop P h (And x y) = Prim.hlevel
each_side_prop P h (Or x y) = Prim.hlevel
each_side_prop P h (Not x) = Prim.hlevel
each_side_prop P h (Negate x) = Prim.hlevel
each_side_prop P h (Compute o x y) = Prim.hlevel
each_side_prop P h (Relate o x y) = Prim.hlevel

edges_prop : (l : Layout) (a : ℕ) (row : Row) → IsProp (EachEdge (Edge l (position_at l) a) row)
edges_prop l a = each_edge_prop (Edge l (position_at l) a) (Prim.hlevel le_prop)

sides_prop : (l : Layout) (a : ℕ) (row : Row) → IsProp (EachSide (Side l a) row)
sides_prop l a = each_side_prop (Side l a) (Prim.hlevel le_prop)

pub planned_prop : (l : Layout) → IsProp (Planned l)
planned_prop l = Prim.hlevel (le_prop, ℕ_set, edges_prop, sides_prop)
