-- The least solution and the sheets have the same values.
use Rattle.std.proofs.Common.{◌≡◌, ℕ, zero, suc, ◌<◌, ◌≤◌, List, length, sym, ◌∙◌, arith, Ok}
use native.Mathlib.Decide.{le_ind}
use Rattle.reading.specs.declared.rows.Row.{Row}
use Rattle.kind.specs.Kinds.{Meaning}
use Rattle.theory.specs.Says.{Says}
use Rattle.theory.specs.Rule.{Sheet, Fits, row_at}
use Rattle.theory.specs.Rank.{Ranked}
use Rattle.theory.specs.Least.{Values, Gives, Round, Least, AnyTick}
use Rattle.theory.specs.Laws.{LeastSolution}
use Rattle.theory.proofs.Local.{each_map}
use Rattle.theory.proofs.Sheets.{sheet, sheet-fits}
use Rattle.theory.proofs.Eventually.{Eventually, then}
use Rattle.theory.proofs.Gives.{gives-eventually, gives-map, rule-gives, gives-rule}

module _ {V : Type 0} (table : List Row) (k : Meaning V) (source : Says V) where
  -- what follows row by row from itself holds of all values of a sheet
  values-in : (H : ℕ) (ranked : Ranked table H) (σ : Sheet V) → Fits table k source H σ → (Q : Values V) →
      ((r : ℕ) → r < length table → (t : ℕ) (v : V) → Gives k source (λ s. s < H) Q (row_at table r) t v → Q r t v) →
      (r : ℕ) → r < length table → (t : ℕ) (v : V) → σ r t ≡ Ok v → Q r t v
  values-in H ranked σ fits Q closed r h t v e = below (suc (ranked.rank r t)) r h t (omega arith) v e
    where
      below : (n r : ℕ) → r < length table → (t : ℕ) → ranked.rank r t < n → (v : V) → σ r t ≡ Ok v → Q r t v
      below zero r h t l v e = absurd (omega arith)
      below (suc n) r h t l v e =
          closed r h t v
          (rule-gives k source H σ Q (row_at table r) r t v
          (each_map H (λ x s p. below n x p.0 s (omega (arith, p.1))) (row_at table r) t (ranked.falls r h t)) (sym (fits r h t) ∙ e))

  round_up : (n r t : ℕ) (v : V) → Round table k source n r t v → Round table k source (suc n) r t v
  round_up zero r t v g = absurd g
  round_up (suc n) r t v g =
      (g.0, gives-map k source AnyTick AnyTick (Round table k source n) (Round table k source (suc n)) (λ s a. a) (round_up n) (row_at table r) t v g.1)

  least-rounds : (r t : ℕ) (v : V) → Least table k source r t v → Eventually (λ n. Round table k source n r t v)
  least-rounds r t v g = (g.0, le_ind (λ n. Round table k source n r t v) g.1 (λ n h. round_up n r t v))

  sheet-least : (H : ℕ) (ranked : Ranked table H) (σ : Sheet V) → Fits table k source H σ →
      (r : ℕ) → r < length table → (t : ℕ) (v : V) → σ r t ≡ Ok v → Least table k source r t v
  sheet-least H ranked σ fits =
      values-in H ranked σ fits (Least table k source)
      (λ r h t v g.
      let e = gives-eventually k source (λ s. s < H) (λ n. AnyTick) (Least table k source) (Round table k source) (λ s l. (0, λ m p. tt)) least-rounds (row_at table r) t v g in
      (suc e.0, (h, e.1 e.0 (omega arith))))

  longer : (H H' : ℕ) (ranked : Ranked table H) → H ≤ H' → (σ σ' : Sheet V) → Fits table k source H σ → Fits table k source H' σ' →
      (r : ℕ) → r < length table → (t : ℕ) (v : V) → σ r t ≡ Ok v → σ' r t ≡ Ok v
  longer H H' ranked le σ σ' fits fits' =
      values-in H ranked σ fits (λ x s w. σ' x s ≡ Ok w)
      (λ r h t v g. fits' r h t ∙ gives-rule k source H' σ' (row_at table r) r t v
      (gives-map k source (λ s. s < H) (λ s. s < H') _ _ (λ s l. omega arith) (λ x s w p. p) (row_at table r) t v g))

  round-sheets : (all : (H : ℕ) → Ranked table H) (n r t : ℕ) (v : V) → Round table k source n r t v →
      Eventually (λ H. sheet table k source H (all H) r t ≡ Ok v)
  round-sheets all zero r t v g = absurd g
  round-sheets all (suc n) r t v g =
      then (λ H q. sheet-fits table k source H (all H) r g.0 t ∙ gives-rule k source H (sheet table k source H (all H)) (row_at table r) r t v q)
      (gives-eventually k source AnyTick (λ H s. s < H) (Round table k source n) (λ H x s w. sheet table k source H (all H) x s ≡ Ok w)
      (λ s a. (suc s, λ m l. l)) (round-sheets all n) (row_at table r) t v g.1)

pub least-solution : (V : Type 0) → LeastSolution V
least-solution V table k source all = (
  λ r h t v. (
    λ g.
        let e = round-sheets table k source all g.0 r t v g.1 in
        (e.0, sheet table k source e.0 (all e.0), sheet-fits table k source e.0 (all e.0), e.1 e.0 (omega arith)),
    λ g. sheet-least table k source g.0 (all g.0) g.1 g.2 r h t v g.3,
  ),
  λ H H'. longer table k source H H' (all H),
)
