-- A row reads nothing but the places of `EachRead`.
use Rattle.std.proofs.Common.{◌≡◌, ℕ, zero, suc, ◌<◌, Bool, true, false, cond, not, Some, None, Option, refl, ap, ◌∙◌, arith, Ok}
use Rattle.reading.specs.Faults.{of_kind}
use Rattle.reading.specs.declared.faults.FaultNumber.TheVariants.{WrongKind}
use Rattle.reading.specs.declared.rows.Row.{Row}
use Rattle.reading.specs.declared.rows.Row.TheVariants.{Literal, Truth, Channel, Same, First, Next, Fby, Asa, If, And, Or, Not, Negate, Compute, Relate}
use Rattle.kind.specs.Kinds.{Meaning}
use Rattle.theory.specs.Says.{Says}
use Rattle.theory.specs.Rule.{Sheet, rule, least, or_at, settled, after, answered, by_truth, connected, told_as, born, is}
use Rattle.theory.specs.Rank.{EachRead}
use Rattle.theory.proofs.Search.{Found, least-found}

pub each_map : (H : ℕ) {P Q : ℕ → ℕ → Type 0} → ((x s : ℕ) → P x s → Q x s) → (row : Row) (t : ℕ) → EachRead H P row t → EachRead H Q row t
each_map H f (Literal n) t e = tt
each_map H f (Truth b) t e = tt
each_map H f (Channel c) t e = tt
each_map H f (Same x) t e = f x t e
each_map H f (First x) t e = f x 0 e
each_map H f (Next x) t e = f x _ e
each_map H f (Fby x y) zero e = f x 0 e
each_map H f (Fby x y) (suc t) e = f y t e
each_map H f (Asa x y) t e = λ s h. (f x s (e s h).0, f y s (e s h).1)
each_map H f (If c x y) t e = (f c t e.0, f x t e.1, f y t e.2)
each_map H f (And x y) t e = (f x t e.0, f y t e.1)
each_map H f (Or x y) t e = (f x t e.0, f y t e.1)
each_map H f (Not x) t e = f x t e
each_map H f (Negate x) t e = f x t e
each_map H f (Compute o x y) t e = (f x t e.0, f y t e.1)
each_map H f (Relate o x y) t e = (f x t e.0, f y t e.1)

least-local : (p q : ℕ → Bool) (n : ℕ) → ((s : ℕ) → s < n → p s ≡ q s) → least p n ≡ least q n
least-local p q zero e = refl
least-local p q (suc n) e =
    λ i. go (e n (omega arith) i) (least-local p q n (λ s h. e s (omega arith)) i)
  where
    go : Bool → Option ℕ → Option ℕ
    go b o = or_at (λ s. b) n o

module _ {V : Type 0} (k : Meaning V) (source : Says V) (H : ℕ) (σ τ : Sheet V) where
  settled-local : (x y r : ℕ) → ((s : ℕ) → s < H → (σ x s ≡ τ x s) × (σ y s ≡ τ y s)) → (p : ℕ → Bool) (o : Option ℕ) → Found p H o →
      settled k r (σ x) (σ y) o ≡ settled k r (τ x) (τ y) o
  settled-local x y r e p None f = refl
  settled-local x y r e p (Some s) f =
      λ i. after ((e s f.0).1 i) (λ v. cond (told_as true (k.told v)) ((e s f.0).0 i) (born WrongKind r s))

  pub rule-local : (row : Row) (r t : ℕ) → EachRead H (λ x s. σ x s ≡ τ x s) row t → rule k source H σ row r t ≡ rule k source H τ row r t
  rule-local (Literal n) r t e = refl
  rule-local (Truth b) r t e = refl
  rule-local (Channel c) r t e = refl
  rule-local (Same x) r t e = e
  rule-local (First x) r t e = e
  rule-local (Next x) r t e = e
  rule-local (Fby x y) r zero e = e
  rule-local (Fby x y) r (suc t) e = e
  rule-local (Asa x y) r t e =
      settled-local x y r e (λ s. not (is k false (σ y s))) (least (λ s. not (is k false (σ y s))) H) (least-found (λ s. not (is k false (σ y s))) H)
      ∙ ap (settled k r (τ x) (τ y)) (least-local (λ s. not (is k false (σ y s))) (λ s. not (is k false (τ y s))) H (λ s h i. not (is k false ((e s h).1 i))))
  rule-local (If c x y) r t e = λ i. after (e.0 i) (λ v. by_truth (k.told v) (e.1 i) (e.2 i) (born WrongKind r t))
  rule-local (And x y) r t e = λ i. connected k false r t (e.0 i) (e.1 i)
  rule-local (Or x y) r t e = λ i. connected k true r t (e.0 i) (e.1 i)
  rule-local (Not x) r t e = ap (λ z. after z (λ v. by_truth (k.told v) (Ok (k.truth false)) (Ok (k.truth true)) (born WrongKind r t))) e
  rule-local (Negate x) r t e = ap (λ z. after z (λ v. answered of_kind (k.negated v) r t)) e
  rule-local (Compute o x y) r t e = λ i. after (e.0 i) (λ v. after (e.1 i) (λ w. answered of_kind (k.computed o v w) r t))
  rule-local (Relate o x y) r t e = λ i. after (e.0 i) (λ v. after (e.1 i) (λ w. answered of_kind (k.related o v w) r t))
