-- What the sheets and the least solution of a table are to each other.
use Rattle.std.specs.Prelude.{ℕ, List}
use Rattle.reading.specs.declared.rows.Row.{Row}
use Rattle.kind.specs.Kinds.{Meaning}
use Rattle.theory.specs.Says.{Says}
use Rattle.theory.specs.Laws.{SomeFits, OneFits, Exact, Lasting}
use Rattle.theory.specs.Potential.{Potential}

-- Exactly one sheet fits each horizon, and the least solution has exactly the values of the sheets, which last.
pub record Determined {V : Type 0} (table : List Row) (k : Meaning V) (source : Says V) : Type 0 where
  pub some : (H : ℕ) → SomeFits table k source H
  pub only : (H : ℕ) → OneFits table k source H
  pub exact : Exact table k source
  pub lasting : Lasting table k source

abbrev pub Determines : Type 0 → Type 0
Determines V = (table : List Row) → Potential table → (k : Meaning V) (source : Says V) → Determined table k source
