-- A ranked table has exactly one sheet.
use Rattle.std.proofs.Common.{◌≡◌, ℕ, zero, suc, ◌<◌, false, List, length, sym, ◌∙◌, arith, Ok}
use Rattle.reading.specs.declared.rows.Row.{Row}
use Rattle.kind.specs.Kinds.{Meaning}
use Rattle.theory.specs.Says.{Says}
use Rattle.theory.specs.Rule.{Sheet, Fits, rule, row_at}
use Rattle.theory.specs.Rank.{EachRead, Ranked}
use Rattle.theory.specs.Laws.{OneSheet}
use Rattle.theory.proofs.Local.{each_map, rule-local}

module _ {V : Type 0} (table : List Row) (k : Meaning V) (source : Says V) (H : ℕ) (ranked : Ranked table H) where
  -- the rules, applied n times to a sheet of one value
  abbrev pub unrolled : ℕ → Sheet V
  unrolled zero r t = Ok (k.truth false)
  unrolled (suc n) r t = rule k source H (unrolled n) (row_at table r) r t

  -- the rules read the same at a place from sheets that agree at all places of lesser rank
  by_rank : (σ τ : Sheet V) (r t : ℕ) → r < length table →
      ((x s : ℕ) → x < length table → ranked.rank x s < ranked.rank r t → σ x s ≡ τ x s) →
      rule k source H σ (row_at table r) r t ≡ rule k source H τ (row_at table r) r t
  by_rank σ τ r t h e =
      rule-local k source H σ τ (row_at table r) r t
      (each_map H (λ x s p. e x s p.0 p.1) (row_at table r) t (ranked.falls r h t))

  stable : (m n r t : ℕ) → r < length table → ranked.rank r t < m → ranked.rank r t < n → unrolled m r t ≡ unrolled n r t
  stable zero n r t h p q = absurd (omega arith)
  stable (suc m) zero r t h p q = absurd (omega arith)
  stable (suc m) (suc n) r t h p q =
      by_rank (unrolled m) (unrolled n) r t h (λ x s g l. stable m n x s g (omega arith) (omega arith))

  abbrev pub sheet : Sheet V
  sheet r t = unrolled (suc (ranked.rank r t)) r t

  pub sheet-fits : Fits table k source H sheet
  sheet-fits r h t =
      by_rank (unrolled (ranked.rank r t)) sheet r t h
      (λ x s g l. stable (ranked.rank r t) (suc (ranked.rank x s)) x s g l (omega arith))

  pub agree : (σ τ : Sheet V) → Fits table k source H σ → Fits table k source H τ → (r : ℕ) → r < length table → (t : ℕ) → σ r t ≡ τ r t
  agree σ τ f g r h t = below (suc (ranked.rank r t)) r t h (omega arith)
    where
      below : (n r t : ℕ) → r < length table → ranked.rank r t < n → σ r t ≡ τ r t
      below zero r t h p = absurd (omega arith)
      below (suc n) r t h p = f r h t ∙ by_rank σ τ r t h (λ x s b l. below n x s b (omega arith)) ∙ sym (g r h t)

-- Where cells hold the sheet's readings at all places that a row reads, the rules read the sheet's reading from the cells.
pub from-cells : {V : Type 0} (table : List Row) (k : Meaning V) (source : Says V) (H : ℕ) (σ : Sheet V) → Fits table k source H σ →
    (cells : Sheet V) (r : ℕ) → r < length table → (t : ℕ) → EachRead H (λ x s. cells x s ≡ σ x s) (row_at table r) t →
    rule k source H cells (row_at table r) r t ≡ σ r t
from-cells table k source H σ fits cells r h t e = rule-local k source H cells σ (row_at table r) r t e ∙ sym (fits r h t)

pub one-sheet : (V : Type 0) → OneSheet V
one-sheet V table k source H ranked = ((sheet table k source H ranked, sheet-fits table k source H ranked), agree table k source H ranked)
