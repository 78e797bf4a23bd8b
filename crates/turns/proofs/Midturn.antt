-- The invariant within a turn.
use Rattle.std.proofs.Common.{◌≡◌, ℕ, ◌+◌, ◌-◌, ◌%◌, ◌<◌, ◌≤◌, ◌≢◌, List, length, get_or, set, sym, refl, ap, ◌∙◌, subst, inl, inr, eq-or-lt_of_le, arith, get_or-set_other, get_or-set_same}
use Rattle.std.proofs.lemmas.Bool.{cases_lt, cases_eq}
use Rattle.reading.specs.Faults.{Reading}
use Rattle.reading.specs.declared.rows.Row.{Row}
use Rattle.reading.specs.declared.rows.Row.TheVariants.{Literal, Truth, Channel, Same, First, Next, Fby, Asa, If, And, Or, Not, Negate, Compute, Relate}
use Rattle.theory.specs.Rule.{Sheet, row_at}
use Rattle.table.specs.Layout.{Layout, Planned, Edge, EachEdge, is_asa, place_at, position_at}
use Rattle.turns.specs.Holds.{slot, Window, Holds, Midst}
use Rattle.turns.specs.Reads.{Has, Ready}
use Rattle.turns.proofs.Slots.{slot-inside, apart, slots-differ}

module _ {V : Type 0} (l : Layout) (p : Planned l) (cells : List (Reading V)) (σ : Sheet V) (s j k : ℕ)
    (m : Midst l (position_at l) cells σ s j k) where
  module _ (r t : ℕ) (is : r < length l.rows) (low : (place_at l r).stage ≤ s) (here : position_at l r ≡ k) (at : t + (place_at l r).delay ≡ j) where
    -- What an edge reaches is in its window.
    reach : (x up down u : ℕ) → Edge l (position_at l) r x up down → u + down ≡ t + up → Has l cells x u (σ x u)
    reach x up down u e tick =
        let a = e.made in
        let b = e.kept in
        let lx : (place_at l x).stage ≤ s = let g = e.stage in omega arith in
        elim (cases_lt (position_at l x) k) [
          | inl h ↦ m.made x e.row lx h u (omega arith) (omega arith)
          | inr h ↦
              let le : u + (place_at l x).delay ≤ j = omega arith in
              elim (eq-or-lt_of_le le) [
                | inl q ↦ absurd (let o = e.before (let w : (place_at l x).delay + up ≡ (place_at l r).delay + down = omega arith in w) in omega arith)
                | inr q ↦ m.coming x e.row lx h u q (omega arith)
              ]
        ]

    own : 0 < t → Has l cells r (t - 1) (σ r (t - 1))
    own h =
        let d = p.deep r is in
        m.coming r is low (omega arith) (t - 1) (omega arith) (omega arith)

    each : (row : Row) → row ≡ row_at l.rows r → EachEdge (Edge l (position_at l) r) row → Ready l cells σ row r t
    each (Literal n) e h = tt
    each (Truth b) e h = tt
    each (Channel c) e h = tt
    each (Same x) e h = reach x 0 0 t h refl
    each (First x) e h = (λ z. reach x 0 0 0 h (omega arith), own)
    each (Next x) e h = reach x 1 0 (t + 1) h (omega arith)
    each (Fby x y) e h = (λ z. reach x 0 0 0 h.0 (omega arith), λ z. reach y 0 1 (t - 1) h.1 (omega arith))
    each (Asa x y) e h = m.settled r is (sym (ap is_asa e)) low t
    each (If c x y) e h = (reach c 0 0 t h.0 refl, reach x 0 0 t h.1 refl, reach y 0 0 t h.2 refl)
    each (And x y) e h = (reach x 0 0 t h.0 refl, reach y 0 0 t h.1 refl)
    each (Or x y) e h = (reach x 0 0 t h.0 refl, reach y 0 0 t h.1 refl)
    each (Not x) e h = reach x 0 0 t h refl
    each (Negate x) e h = reach x 0 0 t h refl
    each (Compute o x y) e h = (reach x 0 0 t h.0 refl, reach y 0 0 t h.1 refl)
    each (Relate o x y) e h = (reach x 0 0 t h.0 refl, reach y 0 0 t h.1 refl)

    pub ready : Ready l cells σ (row_at l.rows r) r t
    ready = each (row_at l.rows r) refl (p.edges r is)

    -- Once its reading is in its window, the row is made.
    module _ (room : l.size ≤ length cells) where
      after-own : Window (place_at l r) (set cells (slot (place_at l r) t) (σ r t)) (σ r) (j + 1)
      after-own u a b d =
          elim (cases_eq u t) [
            | inl e ↦ rw e (get_or-set_same cells (slot (place_at l r) t) (σ r t) d (let i = slot-inside l p r is t in let f = p.fits in omega arith))
            | inr e ↦
                let lt : u < t = omega arith in
                let n = apart (place_at l r).depth u t lt (omega arith) in
                let ne : slot (place_at l r) u ≢ slot (place_at l r) t = λ q. n (let z : u % (place_at l r).depth ≡ t % (place_at l r).depth = omega arith in z) in
                get_or-set_other cells _ _ _ d ne ∙ m.coming r is low (omega arith) u (omega arith) (omega arith) d
          ]

      after-other : (q n : ℕ) → q < length l.rows → q ≢ r → Window (place_at l q) cells (σ q) n →
          Window (place_at l q) (set cells (slot (place_at l r) t) (σ r t)) (σ q) n
      after-other q n iq ne w u a b d = get_or-set_other cells _ _ _ d (slots-differ l p q r iq is ne u t) ∙ w u a b d

      pub made_one : Midst l (position_at l) (set cells (slot (place_at l r) t) (σ r t)) σ s j (k + 1)
      made_one = record {
        made = λ q iq lq h. elim (cases_eq q r) [
          | inl e ↦ rw e after-own
          | inr e ↦ after-other q (j + 1) iq e
              (m.made q iq lq (let ne : position_at l q ≢ k = λ z. e (sym (p.listed q iq).1 ∙ (ap (λ i. get_or l.order i 0) (z ∙ sym here) ∙ (p.listed r is).1)) in omega arith))
        ];
        coming = λ q iq lq h. after-other q j iq (λ e. let z = ap (position_at l) e in omega arith) (m.coming q iq lq (omega arith));
        settled = λ q iq q-asa lq u d. get_or-set_other cells _ _ _ d
            (λ e. let i = slot-inside l p r is t in let o = p.outside q iq q-asa in omega arith) ∙ m.settled q iq q-asa lq u d;
      }

      -- The reading that the row then makes is the sheet's, so its write makes the row.
      pub makes : (v : Reading V) (new : List (Reading V)) → (Ready l cells σ (row_at l.rows r) r t → v ≡ σ r t) → new ≡ set cells (slot (place_at l r) t) v →
          Midst l (position_at l) new σ s j (k + 1)
      makes v new reads written =
          subst (λ x. Midst l (position_at l) x σ s j (k + 1)) (sym (written ∙ ap (set cells (slot (place_at l r) t)) (reads ready))) made_one

module _ {V : Type 0} (l : Layout) (p : Planned l) (cells : List (Reading V)) (σ : Sheet V) (s j : ℕ) where
  pub ends : Midst l (position_at l) cells σ s j (length l.order) → Holds l cells σ s (j + 1)
  ends m = record { windows = λ r is low. m.made r is low (p.listed r is).0; settled = m.settled }
