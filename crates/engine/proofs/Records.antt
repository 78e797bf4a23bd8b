-- Records of calls that grow.
use Rattle.std.proofs.Common.{◌≡◌, ℕ, zero, suc, ◌+◌, ◌≤◌, true, false, List, [], ◌∷◌, ◌++◌, length, get_or, Ok, sym, refl, ap, ◌∙◌, subst, inl, inr, add-one, arith}
use Rattle.std.proofs.lemmas.List.{get_or_append_left, get_or_at}
use Rattle.std.proofs.lemmas.Bool.{cases_eq, true≢false}
use Rattle.kind.specs.Kinds.{Meaning}
use Rattle.theory.specs.Says.{Says}
use Rattle.engine.specs.declared.calls.Call.{Call}
use Rattle.engine.specs.declared.calls.Call.TheVariants.{Open}
use Rattle.engine.specs.declared.calls.Answer.TheVariants.{Restarted}
use Rattle.engine.specs.declared.run.Run.{Run}
use Rattle.table.specs.Layout.{Layout, Planned}
use Rattle.turns.specs.Holds.{Kept}
use Rattle.turns.specs.Ticks.{Untouched}
use Rattle.engine.specs.Law.{Reply, Right, record_of, AllRight}
use Rattle.table.specs.Tables.{layout}
use Rattle.engine.specs.Tells.{laid, Tells, Lawful, Stays}

pub lawful-by : {V : Type 0} (k : Meaning V) (says : Says V) (before after : Run V) {call call' : Call} {a a' : Reply V} → call ≡ call' → a ≡ a' →
    Lawful k says before after call' a' → Lawful k says before after call a
lawful-by k says before after {call} {call'} {a} {a'} e f h =
    subst (λ x. Lawful k says before after x a) (sym e) (subst (λ x. Lawful k says before after call' x) (sym f) h)

-- An accepted call is not a refused one.
pub never : {X : Type 0} → true ≡ false → X
never e = absurd (true≢false e)

-- What leaves the cells past the windows leaves those past the table's.
pub beyond-windows : {A : Type 0} (l : Layout) → Planned l → (old new : List A) → Kept l old new → Untouched l old new
beyond-windows l p old new h i past d = h i (let f = p.fits in omega arith) d

pub stays_same : {V : Type 0} (before after : Run V) → after ≡ before → Stays before after
stays_same before after e =
    record { table = ap (λ run. run.table) e; room = ap (λ run. length run.cells.now) e; beyond = λ i past d. ap (λ run. get_or run.cells.now i d) e }

pub stays-more : {V : Type 0} (a b c : Run V) → Stays a b → Stays b c → Stays a c
stays-more {V} a b c s t =
    let size : (laid b).size ≡ (laid a).size = ap (λ x. (layout x.now.schedule).size) s.table in
    record {
      table = t.table ∙ s.table;
      room = t.room ∙ s.room;
      beyond = λ i past d. t.beyond i (subst (λ n. n ≤ i) (sym size) past) d ∙ s.beyond i past d;
    }

module _ {V : Type 0} (calls : List Call) (replies : List (Reply V)) (a : Reply V) where
  -- One answer more leaves the record so far.
  pub record-more : (n : ℕ) → n ≤ length replies → record_of calls (replies ++ a ∷ []) n ≡ record_of calls replies n
  record-more zero h = refl
  record-more (suc n) h =
      let e = record-more n (omega arith) in
      let f = get_or_append_left replies (a ∷ []) (Ok Restarted) n (omega arith) in
      ap (λ x. record { call = get_or calls n (Open 0); reply = x } ∷ record_of calls (replies ++ a ∷ []) n) f ∙
      ap (λ x. record { call = get_or calls n (Open 0); reply = get_or replies n (Ok Restarted) } ∷ x) e

  pub all_more : (l : Layout) (k : Meaning V) (says : Says V) (room i : ℕ) → length replies ≡ i → AllRight l k says room calls replies i →
      Right l k says room (record_of calls replies i) (get_or calls i (Open 0)) a → AllRight l k says room calls (replies ++ a ∷ []) (i + 1)
  all_more l k says room i long h r j lt =
      elim (cases_eq j i) [
        | inl e ↦
            subst (λ j. Right l k says room (record_of calls (replies ++ a ∷ []) j) (get_or calls j (Open 0)) (get_or (replies ++ a ∷ []) j (Ok Restarted))) (sym e)
            (subst (λ x. Right l k says room (record_of calls (replies ++ a ∷ []) i) (get_or calls i (Open 0)) x) (sym (get_or_at replies a [] (Ok Restarted) i long))
            (subst (λ x. Right l k says room x (get_or calls i (Open 0)) a) (sym (record-more i (omega arith))) r))
        | inr ne ↦
            subst (λ x. Right l k says room (record_of calls (replies ++ a ∷ []) j) (get_or calls j (Open 0)) x) (sym (get_or_append_left replies (a ∷ []) (Ok Restarted) j (omega arith)))
            (subst (λ x. Right l k says room x (get_or calls j (Open 0)) (get_or replies j (Ok Restarted))) (sym (record-more j (omega arith))) (h j (omega arith)))
      ]

  pub tells_more : (k : Meaning V) (says : Says V) (run : Run V) (i : ℕ) → length replies ≡ i → Tells k says run (record { call = get_or calls i (Open 0); reply = a } ∷ record_of calls replies i) →
      Tells k says run (record_of calls (replies ++ a ∷ []) (i + 1))
  tells_more k says run i long t =
      subst (λ n. Tells k says run (record_of calls (replies ++ a ∷ []) n)) (sym (add-one i))
      (subst (λ x. Tells k says run (record { call = get_or calls i (Open 0); reply = x } ∷ record_of calls (replies ++ a ∷ []) i)) (sym (get_or_at replies a [] (Ok Restarted) i long))
      (subst (λ x. Tells k says run (record { call = get_or calls i (Open 0); reply = a } ∷ x)) (sym (record-more i (omega arith))) t))
