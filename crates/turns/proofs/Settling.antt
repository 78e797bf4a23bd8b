-- The search for the reading of an `asa` row.
use Rattle.std.proofs.Common.{◌≡◌, ℕ, zero, suc, ◌<◌, Bool, true, false, cond, not, List, length, Some, None, sym, refl, ap, ◌∙◌, subst, inl, inr, arith}
use Rattle.std.proofs.lemmas.Bool.{cases_lt}
use Rattle.reading.specs.declared.faults.FaultNumber.TheVariants.{Unreached, WrongKind}
use Rattle.reading.specs.declared.rows.Row.{Row}
use Rattle.reading.specs.declared.rows.Row.TheVariants.{Literal, Truth, Channel, Same, First, Next, Fby, Asa, If, And, Or, Not, Negate, Compute, Relate}
use Rattle.kind.specs.Kinds.{Meaning}
use Rattle.theory.specs.Says.{Says}
use Rattle.theory.specs.Rule.{Sheet, Fits, rule, row_at, least, or_at, settled, is, after, told_as, born}
use Rattle.table.specs.Layout.{Layout, Planned, Side, EachSide, is_asa}

pub least-none : (test : ℕ → Bool) (n : ℕ) → ((u : ℕ) → u < n → test u ≡ false) → least test n ≡ None
least-none test zero h = refl
least-none test (suc n) h = ap (or_at test n) (least-none test n (λ u b. h u (omega arith))) ∙ ap (λ b. cond b (Some n) None) (h n (omega arith))

pub least-some : (test : ℕ → Bool) (n s : ℕ) → s < n → test s ≡ true → ((u : ℕ) → u < s → test u ≡ false) → least test n ≡ Some s
least-some test zero s b e h = absurd (omega arith)
least-some test (suc n) s b e h =
    elim (cases_lt s n) [
      | inl lt ↦ ap (or_at test n) (least-some test n s lt e h)
      | inr ge ↦
          let same : s ≡ n = omega arith in
          ap (or_at test n) (least-none test n (λ u lt. h u (omega arith))) ∙
          (ap (λ b. cond b (Some n) None) (ap test (sym same) ∙ e) ∙ ap Some (sym same))
    ]

module _ {V : Type 0} (rows : List Row) (k : Meaning V) (says : Says V) (H : ℕ) (σ : Sheet V) (fits : Fits rows k says H σ)
    (r x y : ℕ) (is_row : r < length rows) (is-asa : row_at rows r ≡ Asa x y) where
  by-rule : (u : ℕ) → σ r u ≡ settled k r (σ x) (σ y) (least (λ s. not (is k false (σ y s))) H)
  by-rule u = fits r is_row u ∙ ap (λ row. rule k says H σ row r u) is-asa

  pub found : (t : ℕ) → t < H → is k false (σ y t) ≡ false → ((u : ℕ) → u < t → is k false (σ y u) ≡ true) →
      (u : ℕ) → σ r u ≡ after (σ y t) (λ v. cond (told_as true (k.told v)) (σ x t) (born WrongKind r t))
  found t b e h u =
      by-rule u ∙
      ap (settled k r (σ x) (σ y)) (least-some (λ s. not (is k false (σ y s))) H t b (ap not e) (λ v lt. ap not (h v lt)))

  pub unreached : ((u : ℕ) → u < H → is k false (σ y u) ≡ true) → (u : ℕ) → σ r u ≡ born Unreached r 0
  unreached h u = by-rule u ∙ ap (settled k r (σ x) (σ y)) (least-none (λ s. not (is k false (σ y s))) H (λ v lt. ap not (h v lt)))

pub both-sides : (l : Layout) → Planned l → (r x y : ℕ) → r < length l.rows → row_at l.rows r ≡ Asa x y → Side l r x × Side l r y
both-sides l p r x y is e = subst (EachSide (Side l r)) e (p.sides r is)

different : false ≡ true → ⊥
different e = let z : ◌≡◌ {A = ℕ} 0 1 = sym (ap (λ b. cond b 1 0) (sym e)) in omega arith

pub asa-form : (row : Row) → is_asa row ≡ true → (x : ℕ) × (y : ℕ) × (row ≡ Asa x y)
asa-form (Literal n) e = absurd (different e)
asa-form (Truth b) e = absurd (different e)
asa-form (Channel c) e = absurd (different e)
asa-form (Same x) e = absurd (different e)
asa-form (First x) e = absurd (different e)
asa-form (Next x) e = absurd (different e)
asa-form (Fby x y) e = absurd (different e)
asa-form (Asa x y) e = (x, y, refl)
asa-form (If c x y) e = absurd (different e)
asa-form (And x y) e = absurd (different e)
asa-form (Or x y) e = absurd (different e)
asa-form (Not x) e = absurd (different e)
asa-form (Negate x) e = absurd (different e)
asa-form (Compute o x y) e = absurd (different e)
asa-form (Relate o x y) e = absurd (different e)
