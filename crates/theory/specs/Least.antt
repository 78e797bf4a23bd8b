-- The least solution of a table, in rounds: values alone, with no horizon.
use Rattle.std.specs.Prelude.{◌≡◌, ℕ, zero, suc, ◌+◌, ◌<◌, Bool, true, false, not, ◌⊎◌, List, length, Ok}
use Rattle.reading.specs.declared.rows.Row.{Row}
use Rattle.reading.specs.declared.rows.Row.TheVariants.{Literal, Truth, Channel, Same, First, Next, Fby, Asa, If, And, Or, Not, Negate, Compute, Relate}
use Rattle.kind.specs.Kinds.{Meaning}
use Rattle.theory.specs.Says.{Says}
use Rattle.theory.specs.Rule.{row_at}

-- Which values stand at which row and tick.
abbrev pub Values : Type 0 → Type 1
Values V = ℕ → ℕ → V → Type 0

-- `and` with false for b, `or` with true: one side decides for b, and both together for the other truth value.
abbrev pub Connects : {V : Type 0} → Meaning V → Bool → (V → Type 0) → (V → Type 0) → V → Type 0
Connects k b X Y v =
    ((v ≡ k.truth b) × (X (k.truth b) ⊎ Y (k.truth b))) ⊎ ((v ≡ k.truth (not b)) × X (k.truth (not b)) × Y (k.truth (not b)))

-- The row has the value v at tick t, by the values P; `asa` searches the ticks of S.
abbrev pub Gives : {V : Type 0} → Meaning V → Says V → (ℕ → Type 0) → Values V → Row → ℕ → V → Type 0
Gives k source S P (Literal n) t v = v ≡ k.literal n
Gives k source S P (Truth b) t v = v ≡ k.truth b
Gives k source S P (Channel c) t v = source c t ≡ Ok v
Gives k source S P (Same x) t v = P x t v
Gives k source S P (First x) t v = P x 0 v
Gives k source S P (Next x) t v = P x (t + 1) v
Gives k source S P (Fby x y) zero v = P x 0 v
Gives k source S P (Fby x y) (suc t) v = P y t v
Gives k source S P (Asa x y) t v =
    (s : ℕ) × S s × P x s v × P y s (k.truth true) × ((u : ℕ) → u < s → P y u (k.truth false))
Gives k source S P (If c x y) t v = (P c t (k.truth true) × P x t v) ⊎ (P c t (k.truth false) × P y t v)
Gives k source S P (And x y) t v = Connects k false (P x t) (P y t) v
Gives k source S P (Or x y) t v = Connects k true (P x t) (P y t) v
Gives {V} k source S P (Not x) t v = (b : Bool) × P x t (k.truth b) × (v ≡ k.truth (not b))
Gives {V} k source S P (Negate x) t v = (a : V) × P x t a × (k.negated a ≡ Ok v)
Gives {V} k source S P (Compute o x y) t v = (a : V) × (b : V) × P x t a × P y t b × (k.computed o a b ≡ Ok v)
Gives {V} k source S P (Relate o x y) t v = (a : V) × (b : V) × P x t a × P y t b × (k.related o a b ≡ Ok v)

-- Every tick, for an `asa` that searches them all.
abbrev pub AnyTick : ℕ → Type 0
AnyTick s = Unit

-- The values of round n: none in round 0, and later what the rows have by the round before.
abbrev pub Round : {V : Type 0} → List Row → Meaning V → Says V → ℕ → Values V
Round table k source zero r t v = ⊥
Round table k source (suc n) r t v = (r < length table) × Gives k source AnyTick (Round table k source n) (row_at table r) t v

-- The least solution has each value that some round has.
abbrev pub Least : {V : Type 0} → List Row → Meaning V → Says V → Values V
Least table k source r t v = (n : ℕ) × Round table k source n r t v
