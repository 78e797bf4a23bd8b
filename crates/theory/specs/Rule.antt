-- What a row reads at a tick, given what every row reads at every tick.
use Rattle.std.specs.Prelude.{◌≡◌, ℕ, zero, suc, ◌+◌, ◌<◌, Bool, true, false, cond, not, ◌&&◌, ◌||◌, List, length, Some, None, Ok, Err, Option, Result, slice_index_or}
use Rattle.std.specs.Bool.{beq}
use Rattle.reading.specs.Faults.{Reading, of_kind, of_source}
use Rattle.reading.specs.declared.faults.FaultNumber.{FaultNumber}
use Rattle.reading.specs.declared.faults.FaultNumber.TheVariants.{Unreached, WrongKind}
use Rattle.reading.specs.declared.rows.Row.{Row}
use Rattle.reading.specs.declared.rows.Row.TheVariants.{Literal, Truth, Channel, Same, First, Next, Fby, Asa, If, And, Or, Not, Negate, Compute, Relate}
use Rattle.kind.specs.Kinds.{Meaning}
use Rattle.theory.specs.Says.{Says}

-- A sheet gives every row one reading at every tick.
abbrev pub Sheet : Type 0 → Type 0
Sheet V = ℕ → ℕ → Reading V

-- The row at a place of the table; the literal 0 past its end.
abbrev pub row_at : List Row → ℕ → Row
row_at table r = slice_index_or table r (Literal 0)

-- A fault born in row r at tick t.
abbrev pub born : {V : Type 0} → FaultNumber → ℕ → ℕ → Reading V
born n r t = Err (record { number = n; row = r; tick = t })

-- An answer given in row r at tick t; `number` gives the number of its fault.
abbrev pub answered : {V F : Type 0} → (F → FaultNumber) → Result V F → ℕ → ℕ → Reading V
answered number (Ok v) r t = Ok v
answered number (Err f) r t = born (number f) r t

-- A fault is passed on whole, and a value goes on.
abbrev pub after : {V : Type 0} → Reading V → (V → Reading V) → Reading V
after (Ok v) go = go v
after (Err f) go = Err f

-- One of three, by what a value was told as: true, false, or neither.
abbrev pub by_truth : {A : Type 0} → Option Bool → A → A → A → A
by_truth (Some true) a b c = a
by_truth (Some false) a b c = b
by_truth None a b c = c

abbrev pub told_as : Bool → Option Bool → Bool
told_as b (Some c) = beq b c
told_as b None = false

-- Whether a reading is the truth value b.
abbrev pub is : {V : Type 0} → Meaning V → Bool → Reading V → Bool
is k b (Ok v) = told_as b (k.told v)
is k b (Err f) = false

-- The least number below n that passes a test.
abbrev pub or_at : (ℕ → Bool) → ℕ → Option ℕ → Option ℕ
or_at test n (Some s) = Some s
or_at test n None = cond (test n) (Some n) None

abbrev pub least : (ℕ → Bool) → ℕ → Option ℕ
least test zero = None
least test (suc n) = or_at test n (least test n)

-- `x asa y` in row r, by the least tick s at which y is not false: y's fault there, or x if y is true.
abbrev pub settled : {V : Type 0} → Meaning V → ℕ → (ℕ → Reading V) → (ℕ → Reading V) → Option ℕ → Reading V
settled k r x y None = born Unreached r 0
settled k r x y (Some s) = after (y s) (λ v. cond (told_as true (k.told v)) (x s) (born WrongKind r s))

-- `and` with false for b, `or` with true: b when either side is b; else a fault, left before right; else the other truth value, if both sides are it.
abbrev pub connected : {V : Type 0} → Meaning V → Bool → ℕ → ℕ → Reading V → Reading V → Reading V
connected k b r t x y =
    cond (is k b x || is k b y) (Ok (k.truth b))
    (after x (λ v. after y (λ w. cond (is k (not b) x && is k (not b) y) (Ok (k.truth (not b))) (born WrongKind r t))))

-- `x fby y` at tick t.
abbrev pub followed : {A : Type 0} → (ℕ → A) → (ℕ → A) → ℕ → A
followed x y zero = x 0
followed x y (suc t) = y t

-- What row r, which is the given one, reads at tick t under the horizon H.
abbrev pub rule : {V : Type 0} → Meaning V → Says V → ℕ → Sheet V → Row → ℕ → ℕ → Reading V
rule k source H σ (Literal n) r t = Ok (k.literal n)
rule k source H σ (Truth b) r t = Ok (k.truth b)
rule k source H σ (Channel c) r t = answered of_source (source c t) r t
rule k source H σ (Same x) r t = σ x t
rule k source H σ (First x) r t = σ x 0
rule k source H σ (Next x) r t = σ x (t + 1)
rule k source H σ (Fby x y) r t = followed (σ x) (σ y) t
rule k source H σ (Asa x y) r t = settled k r (σ x) (σ y) (least (λ s. not (is k false (σ y s))) H)
rule k source H σ (If c x y) r t = after (σ c t) (λ v. by_truth (k.told v) (σ x t) (σ y t) (born WrongKind r t))
rule k source H σ (And x y) r t = connected k false r t (σ x t) (σ y t)
rule k source H σ (Or x y) r t = connected k true r t (σ x t) (σ y t)
rule k source H σ (Not x) r t =
    after (σ x t) (λ v. by_truth (k.told v) (Ok (k.truth false)) (Ok (k.truth true)) (born WrongKind r t))
rule k source H σ (Negate x) r t = after (σ x t) (λ v. answered of_kind (k.negated v) r t)
rule k source H σ (Compute o x y) r t = after (σ x t) (λ v. after (σ y t) (λ w. answered of_kind (k.computed o v w) r t))
rule k source H σ (Relate o x y) r t = after (σ x t) (λ v. after (σ y t) (λ w. answered of_kind (k.related o v w) r t))

-- The sheet fits the horizon H: each reading is what the rules read from the sheet itself.
abbrev pub Fits : {V : Type 0} → List Row → Meaning V → Says V → ℕ → Sheet V → Type 0
Fits table k source H σ = (r : ℕ) → r < length table → (t : ℕ) → σ r t ≡ rule k source H σ (row_at table r) r t
