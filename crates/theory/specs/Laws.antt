-- The theorems about sheets and the least solution.
use Rattle.std.specs.Prelude.{◌≡◌, ℕ, ◌<◌, ◌≤◌, ◌↔◌, List, length, Ok}
use Rattle.reading.specs.declared.rows.Row.{Row}
use Rattle.kind.specs.Kinds.{Meaning}
use Rattle.theory.specs.Says.{Says}
use Rattle.theory.specs.Rule.{Sheet, Fits}
use Rattle.theory.specs.Rank.{Ranked}
use Rattle.theory.specs.Least.{Least}

module _ {V : Type 0} (table : List Row) (k : Meaning V) (source : Says V) where
  -- A sheet fits the horizon H.
  abbrev pub SomeFits : ℕ → Type 0
  SomeFits H = (σ : Sheet V) × Fits table k source H σ

  -- Any two sheets that fit H agree on the table's rows at every tick.
  abbrev pub OneFits : ℕ → Type 0
  OneFits H =
      (σ τ : Sheet V) → Fits table k source H σ → Fits table k source H τ → (r : ℕ) → r < length table → (t : ℕ) → σ r t ≡ τ r t

  -- The least solution has a value at a row and a tick exactly when some horizon's sheet has it there.
  abbrev pub Exact : Type 0
  Exact =
      (r : ℕ) → r < length table → (t : ℕ) (v : V) →
      Least table k source r t v ↔ ((H : ℕ) × (σ : Sheet V) × Fits table k source H σ × (σ r t ≡ Ok v))

  -- What value a horizon's sheet has, the sheet of every longer horizon has too.
  abbrev pub Lasting : Type 0
  Lasting =
      (H H' : ℕ) → H ≤ H' → (σ σ' : Sheet V) → Fits table k source H σ → Fits table k source H' σ' →
      (r : ℕ) → r < length table → (t : ℕ) (v : V) → σ r t ≡ Ok v → σ' r t ≡ Ok v

abbrev pub OneSheet : Type 0 → Type 0
OneSheet V =
    (table : List Row) (k : Meaning V) (source : Says V) (H : ℕ) → Ranked table H → SomeFits table k source H × OneFits table k source H

abbrev pub LeastSolution : Type 0 → Type 0
LeastSolution V =
    (table : List Row) (k : Meaning V) (source : Says V) → ((H : ℕ) → Ranked table H) → Exact table k source × Lasting table k source
