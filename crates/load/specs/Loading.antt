-- From an unchecked table to a checked one.
use Rattle.std.specs.Prelude.{◌≡◌, ℕ, List, [], take, Ok, Err, Result}
use Rattle.reading.specs.declared.rows.Row.{Row}
use Rattle.graph.specs.Labels.{SomeOtherRing}
use Rattle.table.specs.Edges.{table_edges}
use Rattle.table.specs.Tables.{Checked}
use Rattle.table.specs.declared.table.Table.{Table}
use Rattle.syntax.specs.declared.draft.Draft.{Draft}
use Rattle.syntax.specs.declared.draft.Equation.{Equation}
use Rattle.syntax.specs.declared.refusal.Refusal.{Refusal as ReadingRefusal}
use Rattle.syntax.specs.Judgement.{Judged}
use Rattle.load.specs.declared.refusal.Refusal.{Refusal}
use Rattle.load.specs.declared.refusal.Refusal.TheVariants.{Ring}
use Rattle.load.specs.Refusals.{from_reading}
use Rattle.load.specs.Heads.{found, heads_from, result_name, or_none}
use Rattle.load.specs.Sizes.{few, operand_count}
use Rattle.load.specs.Uses.{used}
use Rattle.load.specs.Rows.{nodes_of, table_rows}

-- A step that is refused ends the work with its refusal; else what follows it holds of the answer.
abbrev pub then : {A B : Type 0} → Result A Refusal → (A → Result B Refusal → Type 0) → Result B Refusal → Type 0
then (Ok a) f r = f a r
then (Err e) f r = r ≡ Err e

-- The rows are checked, or some ring of theirs is not negative.
abbrev pub Ended : List Row → ℕ → Result Table Refusal → Type 0
Ended rows result (Ok t) = Checked rows result t.schedule
Ended rows result (Err e) = (e ≡ Ring) × SomeOtherRing (table_edges rows)

-- What is made of a draft and its equations: the sizes, the left sides, `result`, the uses of names and the rings are
-- tried in this order.
abbrev pub Tabled : Draft → List Equation → Result Table Refusal → Type 0
Tabled d es r =
    then (few d.excess) (λ t.
    then (operand_count es) (λ n.
    then (heads_from [] es) (λ u.
    then (or_none d.end (found result_name es)) (λ k.
    let xs = nodes_of es (take n d.operands) in
    then (used es xs) (λ v.
    Ended (table_rows es xs) k))))) r

-- What is made of the reader's answer.
abbrev pub Made : Result Draft ReadingRefusal → Result Table Refusal → Type 0
Made (Ok d) r = Tabled d (take d.count d.equations) r
Made (Err e) r = r ≡ Err (from_reading e)

-- What is made of the bytes: the reader judges them, and the rest goes by its answer.
pub record Loaded (bs : List ℕ) (r : Result Table Refusal) : Type 0 where
  pub draft : Result Draft ReadingRefusal
  pub judged : Judged bs draft
  pub made : Made draft r
