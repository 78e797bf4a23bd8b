-- The answers of accepted calls are right.
use Rattle.std.proofs.Common.{◌≡◌, ℕ, ◌+◌, ◌-◌, ◌<◌, ◌≤◌, List, ◌∷◌, length, Some, None, Ok, Err, Option, MatchOption, IfSome, ok_or, sym, refl, ap, subst, arith}
use Rattle.reading.specs.Faults.{Reading}
use Rattle.kind.specs.Kinds.{Meaning}
use Rattle.theory.specs.Says.{Says}
use Rattle.theory.specs.Rule.{Sheet, Fits, row_at}
use Rattle.engine.specs.declared.calls.Call.TheVariants.{Open, Settle, Step, Look, Restart}
use Rattle.engine.specs.declared.calls.Answer.TheVariants.{Stages, Left, Made, Seen, Restarted}
use Rattle.engine.specs.declared.calls.Refusal.{Refusal}
use Rattle.engine.specs.declared.progress.Progress.{Progress}
use Rattle.engine.specs.declared.run.Run.{Run}
use Rattle.table.specs.Layout.{Layout, Planned, place_at}
use Rattle.turns.specs.Holds.{Settled}
use Rattle.turns.proofs.Settling.{asa-form, both-sides}
use Rattle.engine.specs.Law.{Past, Reply, Right, Under, WindowHas, horizon_of, steps_of, left_of}
use Rattle.engine.specs.Tells.{laid, Goes, Rests, Tells}

pub same_some : (o : Option ℕ) (x y : ℕ) → o ≡ Some x → o ≡ Some y → x ≡ y
same_some o x y p q = cc

pub not_none : {A : Type 0} (o : Option A) (x : A) → o ≡ Some x → o ≡ None → ⊥
not_none o x p q = let z : ◌≡◌ {A = ℕ} 0 1 = cc in omega arith

module _ {V : Type 0} (l : Layout) (p : Planned l) (cells : List (Reading V)) (σ : Sheet V) where
  -- No `asa` row has stage 0.
  pub none-settled : Settled l cells σ 0
  none-settled r is asa low t =
      let f = asa-form (row_at l.rows r) asa in
      let sides = both-sides l p r f.0 f.1 is f.2 in
      absurd (let a = sides.0.stage in omega arith)

  -- No row has a greater stage than the greatest.
  pub settled-all : (s : ℕ) → Settled l cells σ l.stages → Settled l cells σ s
  settled-all s h r is asa low = h r is asa (p.staged r is)

  pub settled-less : (s n : ℕ) → n ≤ s → Settled l cells σ s → Settled l cells σ n
  settled-less s n le h r is asa low = h r is asa (omega arith)

pub open-right : {V : Type 0} (l : Layout) (k : Meaning V) (says : Says V) (room : ℕ) (past : Past V) (h : ℕ) → 1 ≤ h → h ≤ 100000 → l.size ≤ room →
    Right l k says room past (Open h) (Ok (Stages l.stages))
open-right l k says room past h some far fits = (λ z. absurd (omega arith), λ z. absurd (omega arith), λ a b c. absurd (omega arith), λ a b c. refl)

-- A run that was just opened tells so.
pub opened-tells : {V : Type 0} (k : Meaning V) (says : Says V) (l : Layout) (cells : List (Reading V)) (past : Past V) (p : Progress) (n : ℕ) → Planned l →
    p.settled ≡ 0 → p.made ≡ 0 → Goes k says l cells p (record { call = Open p.horizon; reply = Ok (Stages n) } ∷ past)
opened-tells k says l cells past p n planned b c =
    record {
      horizon = refl;
      left = ap (λ x. l.stages - x) b;
      made = sym c;
      low = omega arith;
      done = λ pos. absurd (omega arith);
      settled = λ σ fits. subst (Settled l cells σ) (sym b) (none-settled l planned cells σ);
      holds = λ σ fits pos. absurd (omega arith);
    }

pub in-progress : (o : Option Progress) (f : Refusal) (p : Progress) → Ok p ≡ ok_or o f → o ≡ Some p
in-progress (Some q) f p e = cc
in-progress None f p e = cc

module _ {V : Type 0} (k : Meaning V) (says : Says V) (run : Run V) (past : Past V) where
  -- What a run with progress tells.
  pub goes : (p : Progress) → run.progress ≡ Some p → Tells k says run past → Goes k says (laid run) run.cells.now p past
  goes p at told = subst (λ o. MatchOption o (Rests (laid run) past) (λ q. Goes k says (laid run) run.cells.now q past)) at told

  -- And one without.
  pub rests : run.progress ≡ None → Tells k says run past → Rests (laid run) past
  rests at told = subst (λ o. MatchOption o (Rests (laid run) past) (λ q. Goes k says (laid run) run.cells.now q past)) at told

module _ {V : Type 0} (k : Meaning V) (says : Says V) (l : Layout) (cells : List (Reading V)) (p : Progress) (past : Past V) (told : Goes k says l cells p past) where
  under : (a : Reply V) (P : ℕ → Type 0) → P p.horizon → Under past a P
  under a P h = (
    λ z. absurd (not_none (horizon_of past) p.horizon told.horizon z),
    λ H e. subst P (same_some (horizon_of past) p.horizon H told.horizon e) h,
  )

  pub restart-right : (room : ℕ) → Right l k says room past Restart (Ok Restarted)
  restart-right room = under (Ok Restarted) (λ H. ◌≡◌ {A = Reply V} (Ok Restarted) (Ok Restarted)) refl

  pub step_right : (room : ℕ) → l.stages ≤ p.settled → p.made < p.horizon → (v : Reading V) → ((σ : Sheet V) → Fits l.rows k says p.horizon σ → v ≡ σ l.result p.made) →
      Right l k says room past Step (Ok (Made p.made v))
  step_right room done more v is =
      let a : Reply V = Ok (Made p.made v) in
      under a
      (λ H.
      (0 < left_of l past → a ≡ Err _) × (left_of l past ≡ 0 → H ≤ steps_of past → a ≡ Err _) ×
      (left_of l past ≡ 0 → steps_of past < H → (σ : Sheet V) → Fits l.rows k says H σ → a ≡ Ok (Made (steps_of past) (σ l.result (steps_of past))))) (
        λ pos. absurd (let e = told.left in omega arith),
        λ z le. absurd (let e = told.made in omega arith),
        λ z lt σ fits. let e = told.made in let f = is σ fits in cc,
      )

  pub settle-right : (room n : ℕ) → n ≡ l.stages - p.settled - 1 → Right l k says room past Settle (Ok (Left n))
  settle-right room n e =
      under (Ok (Left n)) (λ H. ◌≡◌ {A = Reply V} (Ok (Left n)) (Ok (Left (left_of l past - 1)))) (ap (λ m. Ok (Left m)) (let f = told.left in let g : n ≡ left_of l past - 1 = omega arith in g))

  pub look-right : (room r t : ℕ) → Planned l → r < length l.rows → t < p.horizon → (v : Reading V) → 0 < p.made → t + (place_at l r).delay < p.made + l.lag →
      p.made + l.lag ≤ t + (place_at l r).delay + (place_at l r).depth → ((σ : Sheet V) → Fits l.rows k says p.horizon σ → v ≡ σ r t) →
      Right l k says room past (Look r t) (Ok (Seen (Some v)))
  look-right room r t planned is below v some made kept reads =
      let a : Reply V = Ok (Seen (Some v)) in
      let e = told.made in
      let d = planned.delayed r is in
      under a
      (λ H.
      (length l.rows ≤ r → a ≡ Err _) × (H ≤ t → a ≡ Err _) × (r < length l.rows → t < H → (σ : Sheet V) → Fits l.rows k says H σ → WindowHas l σ (steps_of past) r t a)) (
        λ a. absurd (omega arith),
        λ a. absurd (omega arith),
        λ a b σ fits. (λ z. absurd (omega arith), λ z. absurd (omega arith), λ z. absurd (omega arith), λ x y z. ap (λ w. Ok (Seen (Some w))) (reads σ fits)),
      )

  -- A window that does not reach the tick, or no step yet.
  pub absent-right : (room r t : ℕ) → Planned l → r < length l.rows → t < p.horizon →
      (0 < p.made → t + (place_at l r).delay < p.made + l.lag → p.made + l.lag ≤ t + (place_at l r).delay + (place_at l r).depth → ⊥) →
      Right l k says room past (Look r t) (Ok (Seen None))
  absent-right room r t planned is below out =
      let a : Reply V = Ok (Seen None) in
      let e = told.made in
      let d = planned.delayed r is in
      under a
      (λ H.
      (length l.rows ≤ r → a ≡ Err _) × (H ≤ t → a ≡ Err _) × (r < length l.rows → t < H → (σ : Sheet V) → Fits l.rows k says H σ → WindowHas l σ (steps_of past) r t a)) (
        λ a. absurd (omega arith),
        λ a. absurd (omega arith),
        λ a b σ fits. (λ z. refl, λ z. refl, λ z. refl, λ x y z. absurd (out (omega arith) (omega arith) (omega arith))),
      )

-- A run with progress has cells enough.
pub enough : {V : Type 0} (run : Run V) (p : Progress) → run.progress ≡ Some p → (laid run).size ≤ length run.cells.now
enough run p at = subst (λ o. IfSome o (λ _. (laid run).size ≤ length run.cells.now)) at run.room

-- A look leaves what a run tells.
pub looked-tells : {V : Type 0} (k : Meaning V) (says : Says V) (run : Run V) (past : Past V) (r t : ℕ) (a : Option (Reading V)) → Tells k says run past →
    Tells k says run (record { call = Look r t; reply = Ok (Seen a) } ∷ past)
looked-tells k says run past r t a told = go run.progress told
  where
    go : (o : Option Progress) → MatchOption o (Rests (laid run) past) (λ p. Goes k says (laid run) run.cells.now p past) →
        MatchOption o (Rests (laid run) (record { call = Look r t; reply = Ok (Seen a) } ∷ past)) (λ p. Goes k says (laid run) run.cells.now p (record { call = Look r t; reply = Ok (Seen a) } ∷ past))
    go None h = record { horizon = h.horizon; left = h.left; made = h.made }
    go (Some p) h = record { horizon = h.horizon; left = h.left; made = h.made; low = h.low; done = h.done; settled = h.settled; holds = h.holds }
