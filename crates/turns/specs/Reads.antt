-- The operands of a row in its turn, and the reading that they decide.
use Rattle.std.specs.Prelude.{◌≡◌, ℕ, ◌+◌, ◌-◌, ◌<◌, true, false, Bool, List, Result, Ok, Err, ok_or}
use Rattle.reading.specs.Faults.{Reading, of_kind, of_source}
use Rattle.reading.specs.declared.faults.FaultNumber.{FaultNumber}
use Rattle.reading.specs.declared.faults.FaultNumber.TheVariants.{WrongKind}
use Rattle.reading.specs.declared.rows.Row.{Row}
use Rattle.reading.specs.declared.rows.Row.TheVariants.{Literal, Truth, Channel, Same, First, Next, Fby, Asa, If, And, Or, Not, Negate, Compute, Relate}
use Rattle.kind.specs.Kinds.{Meaning}
use Rattle.theory.specs.Says.{Says}
use Rattle.theory.specs.Rule.{Sheet, born, answered, after, by_truth, connected}
use Rattle.table.specs.Layout.{Layout, place_at}
use Rattle.turns.specs.Holds.{At, slot}

-- The reading of an answer given in row r at tick t: its value, or a fault whose number is one of the answer's.
abbrev pub Answers : {V F : Type 0} → (F → FaultNumber → Type 0) → Result V F → ℕ → ℕ → Reading V → Type 0
Answers numbers (Ok v) r t z = z ≡ Ok v
Answers numbers (Err f) r t z = (n : FaultNumber) × numbers f n × (z ≡ born n r t)

-- The truth value that a value is, in row r at tick t; a number is a fault of kind.
abbrev pub told : {V : Type 0} → Meaning V → V → ℕ → ℕ → Reading Bool
told k v r t = ok_or (k.told v) (record { number = WrongKind; row = r; tick = t })

-- What row r reads at tick t from the readings a, b and c of its operands; a row that only passes one on has it as a.
abbrev pub decided : {V : Type 0} → Meaning V → Row → ℕ → ℕ → Reading V → Reading V → Reading V → Reading V
decided k (Literal n) r t a b c = Ok (k.literal n)
decided k (Truth w) r t a b c = Ok (k.truth w)
decided k (Channel x) r t a b c = a
decided k (Same x) r t a b c = a
decided k (First x) r t a b c = a
decided k (Next x) r t a b c = a
decided k (Fby x y) r t a b c = a
decided k (Asa x y) r t a b c = a
decided k (If x y z) r t a b c = after a (λ v. by_truth (k.told v) b c (born WrongKind r t))
decided k (And x y) r t a b c = connected k false r t a b
decided k (Or x y) r t a b c = connected k true r t a b
decided k (Not x) r t a b c = after a (λ v. by_truth (k.told v) (Ok (k.truth false)) (Ok (k.truth true)) (born WrongKind r t))
decided k (Negate x) r t a b c = after a (λ v. answered of_kind (k.negated v) r t)
decided k (Compute o x y) r t a b c = after a (λ v. after b (λ w. answered of_kind (k.computed o v w) r t))
decided k (Relate o x y) r t a b c = after a (λ v. after b (λ w. answered of_kind (k.related o v w) r t))

-- The row's window has x at tick t.
abbrev pub Has : {V : Type 0} → Layout → List (Reading V) → ℕ → ℕ → Reading V → Type 0
Has l cells x t v = At cells (slot (place_at l x) t) v

-- v is the first operand of row r at tick t: a channel's word, a cell of a window, or the cell of an `asa` row.
abbrev pub Left : {V : Type 0} → Layout → Says V → List (Reading V) → Row → ℕ → ℕ → Reading V → Type 0
Left l says cells (Literal n) r t v = Unit
Left l says cells (Truth b) r t v = Unit
Left l says cells (Channel c) r t v = v ≡ answered of_source (says c t) r t
Left l says cells (Same x) r t v = Has l cells x t v
Left l says cells (First x) r t v = (t ≡ 0 → Has l cells x 0 v) × (0 < t → Has l cells r (t - 1) v)
Left l says cells (Next x) r t v = Has l cells x (t + 1) v
Left l says cells (Fby x y) r t v = (t ≡ 0 → Has l cells x 0 v) × (0 < t → Has l cells y (t - 1) v)
Left l says cells (Asa x y) r t v = At cells (place_at l r).settled v
Left l says cells (If x y z) r t v = Has l cells x t v
Left l says cells (And x y) r t v = Has l cells x t v
Left l says cells (Or x y) r t v = Has l cells x t v
Left l says cells (Not x) r t v = Has l cells x t v
Left l says cells (Negate x) r t v = Has l cells x t v
Left l says cells (Compute o x y) r t v = Has l cells x t v
Left l says cells (Relate o x y) r t v = Has l cells x t v

-- v is the second operand, where there is one.
abbrev pub Right : {V : Type 0} → Layout → List (Reading V) → Row → ℕ → Reading V → Type 0
Right l cells (Literal n) t v = Unit
Right l cells (Truth b) t v = Unit
Right l cells (Channel c) t v = Unit
Right l cells (Same x) t v = Unit
Right l cells (First x) t v = Unit
Right l cells (Next x) t v = Unit
Right l cells (Fby x y) t v = Unit
Right l cells (Asa x y) t v = Unit
Right l cells (If x y z) t v = Has l cells y t v
Right l cells (And x y) t v = Has l cells y t v
Right l cells (Or x y) t v = Has l cells y t v
Right l cells (Not x) t v = Unit
Right l cells (Negate x) t v = Unit
Right l cells (Compute o x y) t v = Has l cells y t v
Right l cells (Relate o x y) t v = Has l cells y t v

-- v is the third operand, where there is one.
abbrev pub Third : {V : Type 0} → Layout → List (Reading V) → Row → ℕ → Reading V → Type 0
Third l cells (Literal n) t v = Unit
Third l cells (Truth b) t v = Unit
Third l cells (Channel c) t v = Unit
Third l cells (Same x) t v = Unit
Third l cells (First x) t v = Unit
Third l cells (Next x) t v = Unit
Third l cells (Fby x y) t v = Unit
Third l cells (Asa x y) t v = Unit
Third l cells (If x y z) t v = Has l cells z t v
Third l cells (And x y) t v = Unit
Third l cells (Or x y) t v = Unit
Third l cells (Not x) t v = Unit
Third l cells (Negate x) t v = Unit
Third l cells (Compute o x y) t v = Unit
Third l cells (Relate o x y) t v = Unit

-- The cells hold what row r reads at tick t, as the sheet has it.
-- A later tick of `first` reads the row's own reading before it, and an `asa` row its own cell.
abbrev pub Ready : {V : Type 0} → Layout → List (Reading V) → Sheet V → Row → ℕ → ℕ → Type 0
Ready l cells σ (Literal n) r t = Unit
Ready l cells σ (Truth b) r t = Unit
Ready l cells σ (Channel c) r t = Unit
Ready l cells σ (Same x) r t = Has l cells x t (σ x t)
Ready l cells σ (First x) r t = (t ≡ 0 → Has l cells x 0 (σ x 0)) × (0 < t → Has l cells r (t - 1) (σ r (t - 1)))
Ready l cells σ (Next x) r t = Has l cells x (t + 1) (σ x (t + 1))
Ready l cells σ (Fby x y) r t = (t ≡ 0 → Has l cells x 0 (σ x 0)) × (0 < t → Has l cells y (t - 1) (σ y (t - 1)))
Ready l cells σ (Asa x y) r t = At cells (place_at l r).settled (σ r t)
Ready l cells σ (If x y z) r t = Has l cells x t (σ x t) × Has l cells y t (σ y t) × Has l cells z t (σ z t)
Ready l cells σ (And x y) r t = Has l cells x t (σ x t) × Has l cells y t (σ y t)
Ready l cells σ (Or x y) r t = Has l cells x t (σ x t) × Has l cells y t (σ y t)
Ready l cells σ (Not x) r t = Has l cells x t (σ x t)
Ready l cells σ (Negate x) r t = Has l cells x t (σ x t)
Ready l cells σ (Compute o x y) r t = Has l cells x t (σ x t) × Has l cells y t (σ y t)
Ready l cells σ (Relate o x y) r t = Has l cells x t (σ x t) × Has l cells y t (σ y t)
