-- A text that passes every step before the rings. Assumes nothing.
use Rattle.std.proofs.Common.{◌≡◌, ℕ, List, [], take, Ok, Err, Result, sym, subst}
use Rattle.std.specs.Prelude.{MatchResult}
use Rattle.std.specs.Result.{IsErrAnd}
use Rattle.std.proofs.lemmas.Result.{err_from_is_err_and}
use Rattle.graph.specs.declared.plans.Defect.{Defect}
use Rattle.graph.specs.Labels.{SomeOtherRing}
use Rattle.table.specs.Edges.{table_edges}
use Rattle.table.specs.Outcomes.{JudgedRows}
use Rattle.syntax.specs.declared.draft.Node.{Node}
use Rattle.load.specs.declared.refusal.Refusal.TheVariants.{Ring}
use Rattle.reading.specs.declared.rows.Row.{Row}
use Rattle.table.specs.declared.table.Table.{Table}
use Rattle.syntax.specs.declared.draft.Draft.{Draft}
use Rattle.syntax.specs.declared.draft.Equation.{Equation}
use Rattle.load.specs.declared.refusal.Refusal.{Refusal}
use Rattle.load.specs.Heads.{found, heads_from, result_name, or_none}
use Rattle.load.specs.Sizes.{few, operand_count}
use Rattle.load.specs.Uses.{used}
use Rattle.load.specs.Rows.{nodes_of, table_rows}
use Rattle.load.specs.Loading.{then, Ended, Tabled}

pass : {A B : Type 0} (o : Result A Refusal) (a : A) (f : A → Result B Refusal → Type 0) (r : Result B Refusal) → Ok a ≡ o → f a r → then o f r
pass o a f r e h = subst (λ x. then x f r) e h

-- A step that is refused ends the work.
pub stopped : {A B : Type 0} (o : Result A Refusal) (f : A → Result B Refusal → Type 0) (r : Result B Refusal) (e : Refusal) → Err e ≡ o → r ≡ Err e → then o f r
stopped o f r e h k = subst (λ x. then x f r) h k

module _ (d : Draft) (es : List Equation) (n k : ℕ) (r : Result Table Refusal) where
  -- What is left after the steps before the uses.
  abbrev pub Rest : Type 0
  Rest = let xs = nodes_of es (take n d.operands) in then (used es xs) (λ v. Ended (table_rows es xs) k) r

  pub passed : (fs : List Equation) → es ≡ fs → Ok tt ≡ few d.excess → Ok n ≡ operand_count es → Ok tt ≡ heads_from [] es → Ok k ≡ or_none d.end (found result_name es) → Rest → Tabled d fs r
  passed fs e few count heads result rest =
      subst (λ x. Tabled d x r) e (pass _ tt _ r few (pass _ n _ r count (pass _ tt _ r heads (pass _ k _ r result rest))))

  pub rest_passed : (xs : List Node) (rows : List Row) → xs ≡ nodes_of es (take n d.operands) → Ok tt ≡ used es xs → rows ≡ table_rows es xs → Ended rows k r → Rest
  rest_passed xs rows e uses is h =
      subst (λ ys. then (used es ys) (λ v. Ended (table_rows es ys) k) r) e (pass _ tt _ r uses (subst (λ x. Ended x k r) is h))

  pub rest_stopped : (xs : List Node) (e : Refusal) → xs ≡ nodes_of es (take n d.operands) → Err e ≡ used es xs → r ≡ Err e → Rest
  rest_stopped xs e is uses h = subst (λ ys. then (used es ys) (λ v. Ended (table_rows es ys) k) r) is (stopped _ _ r e uses h)

-- The answer of the check of the rows, where a defect is told as a ring.
pub checked : {Q : Defect → Refusal → Type 0} (rows : List Row) (k : ℕ) (o : Result Table Defect) (r : Result Table Refusal) → JudgedRows rows k o → ((e : Defect) → JudgedRows rows k (Err e) → SomeOtherRing (table_edges rows)) → ((e : Defect) (f : Refusal) → Q e f → f ≡ Ring) → MatchResult o (λ x. r ≡ Ok x) (λ e. IsErrAnd r (Q e)) → Ended rows k r
checked rows k (Ok t) r j ring told m = subst (Ended rows k) (sym m) j
checked rows k (Err e) r j ring told m = let p = err_from_is_err_and r m in subst (Ended rows k) (sym p.1) (told e p.0 p.2, ring e j)
