-- The reading that a row's operands decide is that of every sheet that fits.
use Rattle.std.proofs.Common.{◌≡◌, ℕ, zero, suc, ◌-◌, ◌<◌, List, length, get_or, sym, refl, ap, subst, ◌∙◌, inl, inr, arith}
use Rattle.std.proofs.lemmas.Bool.{cases_lt}
use Rattle.reading.specs.Faults.{Reading}
use Rattle.reading.specs.declared.rows.Row.{Row}
use Rattle.reading.specs.declared.rows.Row.TheVariants.{Literal, Truth, Channel, Same, First, Next, Fby, Asa, If, And, Or, Not, Negate, Compute, Relate}
use Rattle.kind.specs.Kinds.{Meaning}
use Rattle.theory.specs.Says.{Says}
use Rattle.theory.specs.Rule.{Sheet, Fits, rule, row_at, followed}
use Rattle.table.specs.Layout.{Layout, place_at}
use Rattle.turns.specs.Holds.{slot}
use Rattle.turns.specs.Reads.{Has, decided, Left, Right, Third, Ready}

-- A cell holds one thing.
pub one_at : {A : Type 0} {cell : A → A} {x y : A} → ((d : A) → cell d ≡ x) → ((d : A) → cell d ≡ y) → x ≡ y
one_at {x} p q = sym (p x) ∙ q x

-- A window has one reading at a tick.
pub one_read : {V : Type 0} (l : Layout) (cells : List (Reading V)) (x t : ℕ) (v w : Reading V) → Has l cells x t v → Has l cells x t w → v ≡ w
one_read l cells x t v w a b = one_at {cell = λ d. get_or cells (slot (place_at l x) t) d} a b

followed-first : {A : Type 0} (x y : ℕ → A) (t : ℕ) → t ≡ 0 → followed x y t ≡ x 0
followed-first x y zero e = refl
followed-first x y (suc t) e = absurd (let z : suc t ≡ 0 = e in omega arith)

followed-later : {A : Type 0} (x y : ℕ → A) (t : ℕ) → 0 < t → followed x y t ≡ y (t - 1)
followed-later x y zero h = absurd (omega arith)
followed-later x y (suc t) h = ap y (let e : t ≡ suc t - 1 = omega arith in e)

congruent : {A B : Type 0} (f : A → A → A → B) {a b c x y z : A} → a ≡ x → b ≡ y → c ≡ z → f a b c ≡ f x y z
congruent f p q r = cc

module _ {V : Type 0} (l : Layout) (k : Meaning V) (says : Says V) (H : ℕ) (σ : Sheet V) (fits : Fits l.rows k says H σ)
    (cells : List (Reading V)) (r t : ℕ) (is : r < length l.rows) (a b c : Reading V) where
  agree : (row : Row) → row ≡ row_at l.rows r → ((u : ℕ) → σ r u ≡ rule k says H σ row r u) →
      Left l says cells row r t a → Right l cells row t b → Third l cells row t c →
      Ready l cells σ row r t → decided k row r t a b c ≡ σ r t
  agree (Literal n) e f la lb lc ra = sym (f t)
  agree (Truth w) e f la lb lc ra = sym (f t)
  agree (Channel x) e f la lb lc ra = la ∙ sym (f t)
  agree (Same x) e f la lb lc ra = one_at la ra ∙ sym (f t)
  agree (First x) e f la lb lc ra =
      elim (cases_lt 0 t) [
        | inl h ↦ one_at (la.1 h) (ra.1 h) ∙ (f (t - 1) ∙ sym (f t))
        | inr h ↦ let z : t ≡ 0 = omega arith in one_at (la.0 z) (ra.0 z) ∙ sym (f t)
      ]
  agree (Next x) e f la lb lc ra = one_at la ra ∙ sym (f t)
  agree (Fby x y) e f la lb lc ra =
      elim (cases_lt 0 t) [
        | inl h ↦ one_at (la.1 h) (ra.1 h) ∙ (sym (followed-later (σ x) (σ y) t h) ∙ sym (f t))
        | inr h ↦ let z : t ≡ 0 = omega arith in one_at (la.0 z) (ra.0 z) ∙ (sym (followed-first (σ x) (σ y) t z) ∙ sym (f t))
      ]
  agree (Asa x y) e f la lb lc ra = one_at la ra
  agree (If x y z) e f la lb lc ra = congruent (decided k (If x y z) r t) (one_at la ra.0) (one_at lb ra.1) (one_at lc ra.2) ∙ sym (f t)
  agree (And x y) e f la lb lc ra = congruent (decided k (And x y) r t) {z = c} (one_at la ra.0) (one_at lb ra.1) refl ∙ sym (f t)
  agree (Or x y) e f la lb lc ra = congruent (decided k (Or x y) r t) {z = c} (one_at la ra.0) (one_at lb ra.1) refl ∙ sym (f t)
  agree (Not x) e f la lb lc ra = congruent (decided k (Not x) r t) {y = b} {z = c} (one_at la ra) refl refl ∙ sym (f t)
  agree (Negate x) e f la lb lc ra = congruent (decided k (Negate x) r t) {y = b} {z = c} (one_at la ra) refl refl ∙ sym (f t)
  agree (Compute o x y) e f la lb lc ra = congruent (decided k (Compute o x y) r t) {z = c} (one_at la ra.0) (one_at lb ra.1) refl ∙ sym (f t)
  agree (Relate o x y) e f la lb lc ra = congruent (decided k (Relate o x y) r t) {z = c} (one_at la ra.0) (one_at lb ra.1) refl ∙ sym (f t)

  pub agrees : (row : Row) → row ≡ row_at l.rows r → (v : Reading V) → v ≡ decided k row r t a b c →
      Left l says cells row r t a → Right l cells row t b → Third l cells row t c →
      Ready l cells σ (row_at l.rows r) r t → v ≡ σ r t
  agrees row e v is_v la lb lc ready =
      is_v ∙ agree row e (λ u. fits r is u ∙ ap (λ x. rule k says H σ x r u) (sym e)) la lb lc (subst (λ x. Ready l cells σ x r t) (sym e) ready)
