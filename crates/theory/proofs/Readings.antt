-- When a reading is a value.
use Rattle.std.proofs.Common.{◌≡◌, ℕ, Bool, true, false, cond, not, ◌&&◌, ◌||◌, ◌⊎◌, Some, None, Ok, Err, Option, Result, sym, refl, ap, ◌∙◌, inl, inr}
use mathlib.Core.Bool.{beq}
use Rattle.reading.specs.declared.faults.Fault.{Fault}
use Rattle.reading.specs.declared.faults.FaultNumber.{FaultNumber}
use Rattle.reading.specs.declared.faults.FaultNumber.TheVariants.{WrongKind}
use Rattle.reading.specs.Faults.{Reading}
use Rattle.kind.specs.Kinds.{Meaning}
use Rattle.theory.specs.Rule.{born, answered, after, by_truth, told_as, is, connected}
use Rattle.theory.specs.Least.{Connects}

pub answered-value : {V F : Type 0} (number : F → FaultNumber) (a : Result V F) (r t : ℕ) (v : V) → answered number a r t ≡ Ok v → a ≡ Ok v
answered-value number (Ok w) r t v e = cc
answered-value number (Err f) r t v e = cc

pub after-value : {V : Type 0} (z : Reading V) (go : V → Reading V) (v : V) → after z go ≡ Ok v → (w : V) × (z ≡ Ok w) × (go w ≡ Ok v)
after-value (Ok w) go v e = (w, refl, e)
after-value (Err f) go v e = (v, cc, cc)

pub by-truth-value : {V : Type 0} (o : Option Bool) (a b : Reading V) (f : Fault) (v : V) → by_truth o a b (Err f) ≡ Ok v →
    ((o ≡ Some true) × (a ≡ Ok v)) ⊎ ((o ≡ Some false) × (b ≡ Ok v))
by-truth-value (Some true) a b f v e = inl (refl, e)
by-truth-value (Some false) a b f v e = inr (refl, e)
by-truth-value None a b f v e = inl (cc, cc)

told-as : (b : Bool) (o : Option Bool) → told_as b o ≡ true → o ≡ Some b
told-as true (Some true) e = refl
told-as true (Some false) e = cc
told-as false (Some true) e = cc
told-as false (Some false) e = refl
told-as b None e = cc

pub cond_value : {V : Type 0} (o : Option Bool) (a : Reading V) (f : Fault) (v : V) → cond (told_as true o) a (Err f) ≡ Ok v →
    (o ≡ Some true) × (a ≡ Ok v)
cond_value (Some true) a f v e = (refl, e)
cond_value (Some false) a f v e = (cc, cc)
cond_value None a f v e = (cc, cc)

beq-refl : (b : Bool) → beq b b ≡ true
beq-refl true = refl
beq-refl false = refl

or-true : (a : Bool) → (a || true) ≡ true
or-true true = refl
or-true false = refl

module _ {V : Type 0} (k : Meaning V) where
  pub is-value : (b : Bool) (z : Reading V) → is k b z ≡ true → z ≡ Ok (k.truth b)
  is-value b (Ok v) e = ap Ok (k.told_only v b (told-as b (k.told v) e))
  is-value b (Err f) e = cc

  pub value-is : (b c : Bool) (z : Reading V) → z ≡ Ok (k.truth c) → is k b z ≡ beq b c
  value-is b c z e = ap (is k b) e ∙ ap (told_as b) (k.told_truth c)

  pub connected-value : (b : Bool) (r t : ℕ) (x y : Reading V) (v : V) → connected k b r t x y ≡ Ok v →
      Connects k b (λ w. x ≡ Ok w) (λ w. y ≡ Ok w) v
  connected-value b r t x y v = go (is k b x) (is k b y) (is k (not b) x) (is k (not b) y) refl refl refl refl
    where
      go : (p q p' q' : Bool) → is k b x ≡ p → is k b y ≡ q → is k (not b) x ≡ p' → is k (not b) y ≡ q' →
          cond (p || q) (Ok (k.truth b)) (after x (λ v. after y (λ w. cond (p' && q') (Ok (k.truth (not b))) (born WrongKind r t)))) ≡ Ok v →
          Connects k b (λ w. x ≡ Ok w) (λ w. y ≡ Ok w) v
      go true q p' q' ep eq ep' eq' e = inl (cc, inl (is-value b x ep))
      go false true p' q' ep eq ep' eq' e = inl (cc, inr (is-value b y eq))
      go false false true true ep eq ep' eq' e =
          inr ((let a = after-value x _ v e in let c = after-value y _ v a.2 in let d = c.2 in cc), is-value (not b) x ep', is-value (not b) y eq')
      go false false true false ep eq ep' eq' e = let a = after-value x _ v e in let c = after-value y _ v a.2 in let d = c.2 in inl (cc, inl (cc))
      go false false false q' ep eq ep' eq' e = let a = after-value x _ v e in let c = after-value y _ v a.2 in let d = c.2 in inl (cc, inl (cc))

  pub connects-value : (b : Bool) (r t : ℕ) (x y : Reading V) (v : V) → Connects k b (λ w. x ≡ Ok w) (λ w. y ≡ Ok w) v →
      connected k b r t x y ≡ Ok v
  connects-value b r t x y v (inl p) =
      elim p.1 [
        | inl q ↦ (let h : is k b x ≡ true = value-is b b x q ∙ beq-refl b in rw h (ap Ok (sym p.0)))
        | inr q ↦ (let h : is k b y ≡ true = value-is b b y q ∙ beq-refl b in rw (h, or-true) (ap Ok (sym p.0)))
      ]
  connects-value true r t x y v (inr p) = rw (p.1, p.2, k.told_truth false) (ap Ok (sym p.0))
  connects-value false r t x y v (inr p) = rw (p.1, p.2, k.told_truth true) (ap Ok (sym p.0))
