-- The cells of `asa` rows.
use Rattle.std.proofs.Common.{◌≡◌, ℕ, ◌<◌, Bool, true, false, cond, ◌&&◌, ltb, length, Some, None, Option, sym, refl, subst, inl, inr, arith}
use Rattle.std.proofs.lemmas.Bool.{cases_eq, and_parts, ltb-true}
use Rattle.kind.specs.Kinds.{Meaning}
use Rattle.theory.specs.Says.{Says}
use Rattle.theory.specs.Rule.{Fits, row_at}
use Rattle.table.specs.Layout.{Layout, Planned, place_at, is_asa}
use Rattle.turns.proofs.Searching.{cells-differ}
use Rattle.engine.specs.declared.progress.Progress.{Progress}
use Rattle.engine.specs.declared.run.Run.{Run}
use Rattle.engine.specs.Cells.{cell_of, Own, Keeps}
use Rattle.engine.specs.Law.{Past}
use Rattle.engine.specs.Tells.{laid, Tells}
use Rattle.engine.proofs.Lawful.{goes, rests, not_none, same_some}

module _ (l : Layout) (p : Planned l) where
  abbrev held : ℕ → Bool
  held r = ltb r (length l.rows) && is_asa (row_at l.rows r)

  its-row : (r : ℕ) → held r ≡ true → r < length l.rows
  its-row r e = ltb-true _ _ (and_parts _ _ e).0

  its-asa : (r : ℕ) → held r ≡ true → is_asa (row_at l.rows r) ≡ true
  its-asa r e = (and_parts _ _ e).1

  one-row : (q r : ℕ) → held r ≡ true → (b : Bool) → held q ≡ b → cond b (Some (place_at l q).settled) None ≡ Some (place_at l r).settled → q ≡ r
  one-row q r er true eq e =
      elim (cases_eq q r) [
        | inl same ↦ same
        | inr ne ↦ absurd (cells-differ l p q r (its-row q eq) (its-row r er) ne (its-asa q eq) (its-asa r er) (let z : (place_at l q).settled ≡ (place_at l r).settled = cc in z))
      ]
  one-row q r er false eq e = let z : ◌≡◌ {A = ℕ} 0 1 = cc in absurd (omega arith)

  pub own-cell : (r : ℕ) → Own l r (cell_of l r)
  own-cell r = go (held r) refl
    where
      go : (b : Bool) → held r ≡ b → Own l r (cond b (Some (place_at l r).settled) None)
      go true e = ((p.outside r (its-row r e) (its-asa r e)).1, λ q f. one-row q r e (held q) refl f)
      go false e = tt

pub keeps-cell : {V : Type 0} (k : Meaning V) (says : Says V) (run : Run V) (past : Past V) → Planned (laid run) → Tells k says run past → (r : ℕ) →
    Keeps (laid run) k says run.cells.now past r (cell_of (laid run) r)
keeps-cell k says run past p told r = go (held (laid run) p r) refl run.progress refl
  where
    go : (b : Bool) → held (laid run) p r ≡ b → (o : Option Progress) → run.progress ≡ o → Keeps (laid run) k says run.cells.now past r (cond b (Some (place_at (laid run) r).settled) None)
    go true e (Some q) at = λ H σ under fits low t.
        let is = its-row (laid run) p r e in
        let g = goes k says run past q at told in
        let same : q.horizon ≡ H = same_some _ q.horizon H g.horizon under in
        let a = g.left in
        let b = p.staged r is in
        g.settled σ (subst (λ n. Fits (laid run).rows k says n σ) (sym same) fits) r is (its-asa (laid run) p r e) (omega arith) t
    go true e None at = λ H σ under fits low t. absurd (not_none _ H under (rests k says run past at told).horizon)
    go false e o at = tt
