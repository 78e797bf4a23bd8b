-- Values by the rules, and the values of a sheet.
use Rattle.std.proofs.Common.{◌≡◌, ℕ, zero, suc, ◌+◌, ◌<◌, Bool, true, false, not, Some, None, Option, sym, refl, ap, ◌∙◌, inl, inr, arith, Ok}
use Rattle.reading.specs.Faults.{Reading, of_kind, of_source}
use Rattle.reading.specs.declared.faults.FaultNumber.TheVariants.{WrongKind}
use Rattle.reading.specs.declared.rows.Row.{Row}
use Rattle.reading.specs.declared.rows.Row.TheVariants.{Literal, Truth, Channel, Same, First, Next, Fby, Asa, If, And, Or, Not, Negate, Compute, Relate}
use Rattle.kind.specs.Kinds.{Meaning}
use Rattle.theory.specs.Says.{Says}
use Rattle.theory.specs.Rule.{Sheet, rule, least, settled, is, after, by_truth, born}
use Rattle.theory.specs.Rank.{EachRead}
use Rattle.theory.specs.Least.{Values, Gives, Connects}
use Rattle.theory.proofs.Search.{Found, least-found, least-is}
use Rattle.theory.proofs.Eventually.{Eventually, always, then, both, each_below}
use Rattle.theory.proofs.Readings.{answered-value, after-value, by-truth-value, cond_value, is-value, value-is, connected-value, connects-value}

-- What a row has by values that hold from some number on, it has from some number on.
module _ {V : Type 0} (k : Meaning V) (source : Says V) (S : ℕ → Type 0) (T : ℕ → ℕ → Type 0) (P : Values V) (F : ℕ → Values V)
    (ticks : (s : ℕ) → S s → Eventually (λ m. T m s)) (values : (x s : ℕ) (w : V) → P x s w → Eventually (λ m. F m x s w)) where
  connects-eventually : (b : Bool) (x y t : ℕ) (v : V) → Connects k b (P x t) (P y t) v → Eventually (λ m. Connects k b (F m x t) (F m y t) v)
  connects-eventually b x y t v (inl p) =
      elim p.1 [ inl q ↦ then (λ m f. inl (p.0, inl f)) (values x t _ q) | inr q ↦ then (λ m f. inl (p.0, inr f)) (values y t _ q) ]
  connects-eventually b x y t v (inr p) = then (λ m f. inr (p.0, f.0, f.1)) (both (values x t _ p.1) (values y t _ p.2))

  pub gives-eventually : (row : Row) (t : ℕ) (v : V) → Gives k source S P row t v → Eventually (λ m. Gives k source (T m) (F m) row t v)
  gives-eventually (Literal n) t v g = always (λ m. g)
  gives-eventually (Truth b) t v g = always (λ m. g)
  gives-eventually (Channel c) t v g = always (λ m. g)
  gives-eventually (Same x) t v g = values x t v g
  gives-eventually (First x) t v g = values x 0 v g
  gives-eventually (Next x) t v g = values x (t + 1) v g
  gives-eventually (Fby x y) zero v g = values x 0 v g
  gives-eventually (Fby x y) (suc t) v g = values y t v g
  gives-eventually (Asa x y) t v g =
      then (λ m f. (g.0, f.0.0, f.0.1, f.1.0, f.1.1))
      (both (both (ticks g.0 g.1) (values x g.0 v g.2))
      (both (values y g.0 _ g.3) (each_below (λ m u. F m y u (k.truth false)) g.0 (λ u l. values y u _ (g.4 u l)))))
  gives-eventually (If c x y) t v (inl g) = then (λ m f. inl f) (both (values c t _ g.0) (values x t v g.1))
  gives-eventually (If c x y) t v (inr g) = then (λ m f. inr f) (both (values c t _ g.0) (values y t v g.1))
  gives-eventually (And x y) t v g = connects-eventually false x y t v g
  gives-eventually (Or x y) t v g = connects-eventually true x y t v g
  gives-eventually (Not x) t v g = then (λ m f. (g.0, f, g.2)) (values x t _ g.1)
  gives-eventually (Negate x) t v g = then (λ m f. (g.0, f, g.2)) (values x t _ g.1)
  gives-eventually (Compute o x y) t v g = then (λ m f. (g.0, g.1, f.0, f.1, g.4)) (both (values x t _ g.2) (values y t _ g.3))
  gives-eventually (Relate o x y) t v g = then (λ m f. (g.0, g.1, f.0, f.1, g.4)) (both (values x t _ g.2) (values y t _ g.3))

pub gives-map : {V : Type 0} (k : Meaning V) (source : Says V) (S T : ℕ → Type 0) (P Q : Values V) → ((s : ℕ) → S s → T s) → ((x s : ℕ) (w : V) → P x s w → Q x s w) →
    (row : Row) (t : ℕ) (v : V) → Gives k source S P row t v → Gives k source T Q row t v
gives-map k source S T P Q f g row t v h =
    let e = gives-eventually k source S (λ m. T) P (λ m. Q) (λ s p. always (λ m. f s p)) (λ x s w p. always (λ m. g x s w p)) row t v h in
    e.1 e.0 (omega arith)

module _ {V : Type 0} (k : Meaning V) (source : Says V) (H : ℕ) (σ : Sheet V) where
  -- the values that the sheet has
  abbrev Has : Values V
  Has x s w = σ x s ≡ Ok w

  connects-map : (b : Bool) (X Y X' Y' : V → Type 0) (v : V) → ((w : V) → X w → X' w) → ((w : V) → Y w → Y' w) → Connects k b X Y v → Connects k b X' Y' v
  connects-map b X Y X' Y' v f g (inl p) = inl (p.0, elim p.1 [ inl q ↦ inl (f _ q) | inr q ↦ inr (g _ q) ])
  connects-map b X Y X' Y' v f g (inr p) = inr (p.0, f _ p.1, g _ p.2)

  not-rule : (b : Bool) (z : Reading V) (r t : ℕ) (v : V) → z ≡ Ok (k.truth b) → v ≡ k.truth (not b) →
      after z (λ v. by_truth (k.told v) (Ok (k.truth false)) (Ok (k.truth true)) (born WrongKind r t)) ≡ Ok v
  not-rule true z r t v e h = rw (e, k.told_truth true) (ap Ok (sym h))
  not-rule false z r t v e h = rw (e, k.told_truth false) (ap Ok (sym h))

  truth-told : (z : Reading V) (w : V) (b : Bool) → z ≡ Ok w → k.told w ≡ Some b → z ≡ Ok (k.truth b)
  truth-told z w b e h = e ∙ ap Ok (k.told_only w b h)

  not-false : (b : Bool) → not b ≡ false → b ≡ true
  not-false true e = refl
  not-false false e = cc

  settled-gives : (x y r : ℕ) (v : V) (o : Option ℕ) → Found (λ s. not (is k false (σ y s))) H o → settled k r (σ x) (σ y) o ≡ Ok v →
      (s : ℕ) × (s < H) × Has x s v × Has y s (k.truth true) × ((u : ℕ) → u < s → Has y u (k.truth false))
  settled-gives x y r v None f e = let z : ◌≡◌ {A = ℕ} 0 1 = cc in absurd (omega arith)
  settled-gives x y r v (Some s) f e =
      let a = after-value (σ y s) _ v e in
      let c = cond_value (k.told a.0) (σ x s) _ v a.2 in
      (s, f.0, c.1, truth-told (σ y s) a.0 true a.1 c.0, λ u l. is-value k false (σ y u) (not-false (is k false (σ y u)) (f.2 u l)))

  -- a row's value comes from values of the sheet, at places that the row reads
  pub rule-gives : (Q : Values V) (row : Row) (r t : ℕ) (v : V) → EachRead H (λ x s. (w : V) → Has x s w → Q x s w) row t →
      rule k source H σ row r t ≡ Ok v → Gives k source (λ s. s < H) Q row t v
  rule-gives Q (Literal n) r t v q e = cc
  rule-gives Q (Truth b) r t v q e = cc
  rule-gives Q (Channel c) r t v q e = answered-value of_source (source c t) r t v e
  rule-gives Q (Same x) r t v q e = q v e
  rule-gives Q (First x) r t v q e = q v e
  rule-gives Q (Next x) r t v q e = q v e
  rule-gives Q (Fby x y) r zero v q e = q v e
  rule-gives Q (Fby x y) r (suc t) v q e = q v e
  rule-gives Q (Asa x y) r t v q e =
      let g = settled-gives x y r v _ (least-found (λ s. not (is k false (σ y s))) H) e in
      (g.0, g.1, (q g.0 g.1).0 v g.2, (q g.0 g.1).1 _ g.3, λ u l. (q u (omega arith)).1 _ (g.4 u l))
  rule-gives Q (If c x y) r t v q e =
      let a = after-value (σ c t) _ v e in
      elim (by-truth-value (k.told a.0) (σ x t) (σ y t) _ v a.2) [
        | inl p ↦ inl (q.0 _ (truth-told (σ c t) a.0 true a.1 p.0), q.1 v p.1)
        | inr p ↦ inr (q.0 _ (truth-told (σ c t) a.0 false a.1 p.0), q.2 v p.1)
      ]
  rule-gives Q (And x y) r t v q e = connects-map false _ _ (Q x t) (Q y t) v q.0 q.1 (connected-value k false r t (σ x t) (σ y t) v e)
  rule-gives Q (Or x y) r t v q e = connects-map true _ _ (Q x t) (Q y t) v q.0 q.1 (connected-value k true r t (σ x t) (σ y t) v e)
  rule-gives Q (Not x) r t v q e =
      let a = after-value (σ x t) _ v e in
      elim (by-truth-value (k.told a.0) _ _ _ v a.2) [
        | inl p ↦ (true, q _ (truth-told (σ x t) a.0 true a.1 p.0), let h = p.1 in cc)
        | inr p ↦ (false, q _ (truth-told (σ x t) a.0 false a.1 p.0), let h = p.1 in cc)
      ]
  rule-gives Q (Negate x) r t v q e =
      let a = after-value (σ x t) _ v e in
      (a.0, q _ a.1, answered-value of_kind (k.negated a.0) r t v a.2)
  rule-gives Q (Compute o x y) r t v q e =
      let a = after-value (σ x t) _ v e in
      let b = after-value (σ y t) _ v a.2 in
      (a.0, b.0, q.0 _ a.1, q.1 _ b.1, answered-value of_kind (k.computed o a.0 b.0) r t v b.2)
  rule-gives Q (Relate o x y) r t v q e =
      let a = after-value (σ x t) _ v e in
      let b = after-value (σ y t) _ v a.2 in
      (a.0, b.0, q.0 _ a.1, q.1 _ b.1, answered-value of_kind (k.related o a.0 b.0) r t v b.2)

  -- what a row has by the values of the sheet, it reads from the sheet
  pub gives-rule : (row : Row) (r t : ℕ) (v : V) → Gives k source (λ s. s < H) Has row t v → rule k source H σ row r t ≡ Ok v
  gives-rule (Literal n) r t v g = ap Ok (sym g)
  gives-rule (Truth b) r t v g = ap Ok (sym g)
  gives-rule (Channel c) r t v g = rw g
  gives-rule (Same x) r t v g = g
  gives-rule (First x) r t v g = g
  gives-rule (Next x) r t v g = g
  gives-rule (Fby x y) r zero v g = g
  gives-rule (Fby x y) r (suc t) v g = g
  gives-rule (Asa x y) r t v g =
      let e : least (λ s. not (is k false (σ y s))) H ≡ Some g.0 =
      least-is (λ s. not (is k false (σ y s))) H g.0 g.1 (ap not (value-is k false true (σ y g.0) g.3))
      (λ u l. ap not (value-is k false false (σ y u) (g.4 u l))) in
      rw (e, g.3, k.told_truth true) g.2
  gives-rule (If c x y) r t v (inl g) = rw (g.0, k.told_truth true) g.1
  gives-rule (If c x y) r t v (inr g) = rw (g.0, k.told_truth false) g.1
  gives-rule (And x y) r t v g = connects-value k false r t (σ x t) (σ y t) v g
  gives-rule (Or x y) r t v g = connects-value k true r t (σ x t) (σ y t) v g
  gives-rule (Not x) r t v g = not-rule g.0 (σ x t) r t v g.1 g.2
  gives-rule (Negate x) r t v g = rw (g.1, g.2)
  gives-rule (Compute o x y) r t v g = rw (g.2, g.3, g.4)
  gives-rule (Relate o x y) r t v g = rw (g.2, g.3, g.4)
