-- The search of the `asa` rows of a stage: what one write to a row's cell leaves, and how a search ends.
use Rattle.std.proofs.Common.{◌≡◌, ℕ, ◌+◌, ◌-◌, ◌<◌, ◌≤◌, Bool, true, false, ◌≢◌, ◌⊎◌, List, length, get_or, set, Some, None, sym, ap, ◌∙◌, subst, inl, inr, eq-or-lt_of_le, arith, get_or-set_other, get_or-set_same}
use Rattle.std.proofs.lemmas.Bool.{cases_lt, cases_eq, cases_Bool, both_ways, and_parts, and_from, eqb-true, eq-eqb}
use Rattle.reading.specs.declared.faults.FaultNumber.TheVariants.{Unreached}
use Rattle.reading.specs.Faults.{Reading}
use Rattle.reading.specs.declared.rows.Row.TheVariants.{Asa}
use Rattle.kind.specs.Kinds.{Meaning}
use Rattle.theory.specs.Says.{Says}
use Rattle.theory.specs.Rule.{Sheet, Fits, row_at, is, born}
use Rattle.table.specs.Layout.{Layout, Planned, is_asa, place_at, position_at}
use Rattle.turns.specs.Holds.{At, Holds, Settled, Kept}
use Rattle.turns.specs.Searches.{searching, Ends, Sought, Begun, Seeking, SoughtRow, SoughtAll}
use Rattle.turns.specs.Reads.{Has}
use Rattle.turns.specs.Ticks.{Untouched}
use Rattle.turns.proofs.Slots.{slot-inside}
use Rattle.turns.proofs.Settling.{found, unreached, asa-form, both-sides}

module _ (l : Layout) (stage r : ℕ) (s : searching l stage r ≡ true) where
  pub its-asa : is_asa (row_at l.rows r) ≡ true
  its-asa = (and_parts _ _ s).0

  pub its-stage : (place_at l r).stage ≡ stage
  its-stage = eqb-true _ _ (and_parts _ _ s).1

pub is-searching : (l : Layout) (stage r : ℕ) → is_asa (row_at l.rows r) ≡ true → (place_at l r).stage ≡ stage → searching l stage r ≡ true
is-searching l stage r a e = and_from _ _ a (eq-eqb _ _ e)

module _ (l : Layout) (p : Planned l) where
  -- `asa` rows have cells of their own.
  pub cells-differ : (q r : ℕ) → q < length l.rows → r < length l.rows → q ≢ r → is_asa (row_at l.rows q) ≡ true → is_asa (row_at l.rows r) ≡ true →
      (place_at l q).settled ≢ (place_at l r).settled
  cells-differ q r iq ir ne qa ra e =
      elim (cases_lt q r) [
        | inl h ↦ let s = p.alone q r h ir qa ra in omega arith
        | inr h ↦ let lt : r < q = omega arith in let s = p.alone r q lt iq ra qa in omega arith
      ]

  -- Rows at one position are one row.
  pub one-row : (q r : ℕ) → q < length l.rows → r < length l.rows → position_at l q ≡ position_at l r → q ≡ r
  one-row q r iq ir e = sym (p.listed q iq).1 ∙ (ap (λ i. get_or l.order i 0) e ∙ (p.listed r ir).1)

  -- A reading is written into the cell of the `asa` row r, which is of the stage.
  module _ {V : Type 0} (cells : List (Reading V)) (room : l.size ≤ length cells) (stage r : ℕ) (is_row : r < length l.rows) (s : searching l stage r ≡ true) (v : Reading V) where
    pub stored : At (set cells (place_at l r).settled v) (place_at l r).settled v
    stored d = get_or-set_same cells (place_at l r).settled v d (let o = p.outside r is_row (its-asa l stage r s) in omega arith)

    pub others-stay : (q : ℕ) → q < length l.rows → q ≢ r → is_asa (row_at l.rows q) ≡ true → (w : Reading V) →
        At cells (place_at l q).settled w → At (set cells (place_at l r).settled v) (place_at l q).settled w
    others-stay q iq ne qa w h d = get_or-set_other cells _ _ _ d (cells-differ q r iq is_row ne qa (its-asa l stage r s)) ∙ h d

    pub lower-stays : 0 < stage → (σ : Sheet V) → Settled l cells σ (stage - 1) → Settled l (set cells (place_at l r).settled v) σ (stage - 1)
    lower-stays pos σ h q iq qa low t =
        others-stay q iq (λ z. let w = ap (λ i. (place_at l i).stage) z in let e = its-stage l stage r s in omega arith) qa (σ q t) (h q iq qa low t)

    pub windows-stay : 0 < stage → (σ : Sheet V) (n : ℕ) → Holds l cells σ (stage - 1) n → Holds l (set cells (place_at l r).settled v) σ (stage - 1) n
    windows-stay pos σ n h = record {
      windows = λ q iq low t a b d.
          get_or-set_other cells _ _ _ d (λ e. let i = slot-inside l p q iq t in let o = p.outside r is_row (its-asa l stage r s) in omega arith) ∙ h.windows q iq low t a b d;
      settled = lower-stays pos σ h.settled;
    }

    pub untouched-still : (old : List (Reading V)) → Untouched l old cells → Untouched l old (set cells (place_at l r).settled v)
    untouched-still old h i past d =
        get_or-set_other cells _ _ _ d (λ e. let o = p.outside r is_row (its-asa l stage r s) in omega arith) ∙ h i past d

    -- The searches of other rows stay, whatever is noted of row r.
    pub sought-stays : (k : Meaning V) (σ : Sheet V) (pending : List Bool) (b : Bool) (q n : ℕ) → q < length l.rows → q ≢ r → searching l stage q ≡ true →
        Sought l k cells σ pending q n → Sought l k (set cells (place_at l r).settled v) σ (set pending r b) q n
    sought-stays k σ pending b q n iq ne sq h = (
      λ e u. others-stay q iq ne (its-asa l stage q sq) (σ q u) (h.0 (sym (get_or-set_other pending r q b false ne) ∙ e) u),
      λ e. let g = h.1 (sym (get_or-set_other pending r q b false ne) ∙ e) in (others-stay q iq ne (its-asa l stage q sq) _ g.0, g.1),
    )

  -- The search of row r ends at tick t.
  pub sought-found : {V : Type 0} (k : Meaning V) (says : Says V) (H : ℕ) (σ : Sheet V) → Fits l.rows k says H σ → (cells : List (Reading V)) → l.size ≤ length cells →
      (pending : List Bool) (stage r t x y : ℕ) → r < length pending → t < H → r < length l.rows → searching l stage r ≡ true → row_at l.rows r ≡ Asa x y →
      get_or pending r false ≡ true → (v : Reading V) → Ends k σ r x y t (Some v) → Sought l k cells σ pending r t →
      Sought l k (set cells (place_at l r).settled v) σ (set pending r false) r (t + 1)
  sought-found k says H σ fits cells room pending stage r t x y inside lt ir s row waits v ends h =
      let e : (u : ℕ) → v ≡ σ r u =
      λ u. ends.1 ∙ sym (found l.rows k says H σ fits r x y ir row t lt ends.0 ((h.1 waits).1 x y row) u) in (
        λ z u. subst (λ w. At (set cells (place_at l r).settled v) (place_at l r).settled w) (e u) (stored cells room stage r ir s v),
        λ z. absurd (both_ways _ (get_or-set_same pending r false false inside) z),
      )

  -- It does not end there.
  pub sought-on : {V : Type 0} (k : Meaning V) (σ : Sheet V) (cells : List (Reading V)) (pending : List Bool) (r t x y : ℕ) → row_at l.rows r ≡ Asa x y →
      get_or pending r false ≡ true → Ends k σ r x y t None → Sought l k cells σ pending r t → Sought l k cells σ pending r (t + 1)
  sought-on k σ cells pending r t x y row waits ends h = (
    λ z. absurd (both_ways _ z waits),
    λ z. let g = h.1 z in (
      g.0,
      λ a b e u lt. elim (cases_eq u t) [
        | inl same ↦ subst (λ w. is k false (σ w u) ≡ true) (right_side x y a b (sym row ∙ e)) (ap (λ n. is k false (σ y n)) same ∙ ends)
        | inr other ↦ g.1 a b e u (omega arith)
      ],
    ),
  )
    where
      right_side : (x y a b : ℕ) → Asa x y ≡ Asa a b → y ≡ b
      right_side x y a b e = cc

  -- Where no search is pending, or all ticks below the horizon are seen, the stage is settled.
  pub all_settled : {V : Type 0} (k : Meaning V) (says : Says V) (H : ℕ) (σ : Sheet V) → Fits l.rows k says H σ → (cells : List (Reading V)) (pending : List Bool) (stage n : ℕ) →
      Settled l cells σ (stage - 1) → Seeking l k cells σ pending stage 0 n → (((q : ℕ) → get_or pending q false ≡ false) ⊎ (H ≤ n)) → Settled l cells σ stage
  all_settled k says H σ fits cells pending stage n lower seek end r ir ra low u =
      elim (eq-or-lt_of_le low) [
        | inl e ↦
            let s = is-searching l stage r ra e in
            let h = seek.coming r ir s (omega arith) in
            elim (cases_Bool (get_or pending r false)) [
              | inl waits ↦ elim end [
                | inl none ↦ absurd (both_ways _ (none r) waits)
                | inr all ↦
                    let f = asa-form (row_at l.rows r) ra in
                    let g = h.1 waits in
                    subst (λ w. At cells (place_at l r).settled w)
                    (sym (unreached l.rows k says H σ fits r f.0 f.1 ir f.2 (λ v lt. g.1 f.0 f.1 f.2 v (omega arith)) u)) g.0
              ]
              | inr done ↦ h.0 done u
            ]
        | inr lt ↦ lower r ir ra (omega arith) u
      ]

  -- A turn of the rows of lower stages leaves the cells of the searches.
  pub seeking-kept : {V : Type 0} (k : Meaning V) (old new : List (Reading V)) (σ : Sheet V) (pending : List Bool) (stage n : ℕ) → Kept l old new →
      Seeking l k old σ pending stage 0 n → Seeking l k new σ pending stage 0 n
  seeking-kept k old new σ pending stage n kept h = record {
    made = λ r ir s b. absurd (omega arith);
    coming = λ r ir s b. let g = h.coming r ir s b in let o = (p.outside r ir (its-asa l stage r s)).0 in (
      λ e u d. kept _ o d ∙ g.0 e u d,
      λ e. (λ d. kept _ o d ∙ (g.1 e).0 d, (g.1 e).1),
    );
  }

  module _ {V : Type 0} (cells : List (Reading V)) (pending : List Bool) (stage i r : ℕ) (ir : r < length l.rows) (here : position_at l r ≡ i) where
    -- The search of one row more begins.
    pub begun-one : l.size ≤ length cells → r < length pending → searching l stage r ≡ true → (new : List (Reading V)) → new ≡ set cells (place_at l r).settled (born Unreached r 0) →
        Begun l cells pending stage i → Begun l new (set pending r true) stage (i + 1)
    begun-one room inside s new e h q iq sq b =
        elim (cases_eq q r) [
          | inl same ↦ rw same (get_or-set_same pending r true false inside, subst (λ x. At x (place_at l r).settled (born Unreached r 0)) (sym e) (stored cells room stage r ir s (born Unreached r 0)))
          | inr ne ↦
              let lt : position_at l q < i = let pn : position_at l q ≢ i = λ z. ne (one-row q r iq ir (z ∙ sym here)) in omega arith in
              let g = h q iq sq lt in (
                get_or-set_other pending r q true false ne ∙ g.0,
                subst (λ x. At x (place_at l q).settled (born Unreached q 0)) (sym e) (others-stay cells room stage r ir s (born Unreached r 0) q iq ne (its-asa l stage q sq) _ g.1),
              )
        ]

    -- The row has no search in this stage.
    pub begun-skip : searching l stage r ≡ false → Begun l cells pending stage i → Begun l cells pending stage (i + 1)
    begun-skip no-search h q iq sq b =
        elim (cases_eq q r) [
          | inl same ↦ absurd (both_ways _ (subst (λ x. searching l stage x ≡ false) (sym same) no-search) sq)
          | inr ne ↦ h q iq sq (let pn : position_at l q ≢ i = λ z. ne (one-row q r iq ir (z ∙ sym here)) in omega arith)
        ]

    -- One row more is sought over tick t.
    pub sought-one : (k : Meaning V) (says : Says V) (H : ℕ) (σ : Sheet V) → Fits l.rows k says H σ → (t : ℕ) → t < H → (new : List (Reading V)) (pending' : List Bool) →
        SoughtRow l k stage t r cells pending new pending' → Holds l cells σ (stage - 1) (t + l.lag + 1) → Seeking l k cells σ pending stage i t →
        Holds l new σ (stage - 1) (t + l.lag + 1) × Seeking l k new σ pending' stage (i + 1) t
    sought-one k says H σ fits t lt new pending' row held h =
        let g = row says H σ fits lt held in (
          g.0,
          record {
            made = λ q iq sq b. elim (cases_eq q r) [
              | inl same ↦ subst (λ x. Sought l k new σ pending' x (t + 1)) (sym same)
                  (g.1 (subst (λ x. searching l stage x ≡ true) same sq) (subst (λ x. Sought l k cells σ pending x t) same (h.coming q iq sq (let z = ap (position_at l) same in omega arith))))
              | inr ne ↦ g.2 q (t + 1) iq ne sq (h.made q iq sq (let pn : position_at l q ≢ i = λ z. ne (one-row q r iq ir (z ∙ sym here)) in omega arith))
            ];
            coming = λ q iq sq b. g.2 q t iq (λ z. let w = ap (position_at l) z in omega arith) sq (h.coming q iq sq (omega arith));
          },
        )

  module _ {V : Type 0} (k : Meaning V) (cells : List (Reading V)) (σ : Sheet V) (pending : List Bool) (stage : ℕ) where
    pub begun_all : Begun l cells pending stage (length l.order) → Seeking l k cells σ pending stage 0 0
    begun_all h = record {
      made = λ r ir s b. absurd (omega arith);
      coming = λ r ir s b. let g = h r ir s (p.listed r ir).0 in (λ e. absurd (both_ways _ e g.0), λ e. (g.1, λ x y f u lt. absurd (omega arith)));
    }

    pub sought-all : (n : ℕ) → Seeking l k cells σ pending stage (length l.order) n → Seeking l k cells σ pending stage 0 (n + 1)
    sought-all n h = record {
      made = λ r ir s b. absurd (omega arith);
      coming = λ r ir s b. h.made r ir s (p.listed r ir).0;
    }

  -- The sides of an `asa` row of the stage are in their windows when tick t is due.
  pub sides-at : {V : Type 0} (cells : List (Reading V)) (σ : Sheet V) (stage r x y t : ℕ) → r < length l.rows → searching l stage r ≡ true → row_at l.rows r ≡ Asa x y →
      Holds l cells σ (stage - 1) (t + l.lag + 1) → Has l cells x t (σ x t) × Has l cells y t (σ y t)
  sides-at cells σ stage r x y t ir s row h =
      let sides = both-sides l p r x y ir row in
      let e = its-stage l stage r s in
      let a = sides.0.stage in
      let b = sides.1.stage in
      let m = sides.0.kept in
      let n = sides.1.kept in
      let f = p.delayed x sides.0.row in
      let g = p.delayed y sides.1.row in (
        h.windows x sides.0.row (omega arith) t (omega arith) (omega arith),
        h.windows y sides.1.row (omega arith) t (omega arith) (omega arith),
      )

  -- A turn, and the search at the tick that is then due.
  pub sought-turn : {V : Type 0} (k : Meaning V) (says : Says V) (H : ℕ) (σ : Sheet V) → Fits l.rows k says H σ → (cells mid new : List (Reading V)) (pending pending' : List Bool) (stage t : ℕ) →
      t < H → Holds l mid σ (stage - 1) (t + l.lag + 1) → Kept l cells mid → Seeking l k cells σ pending stage 0 t →
      SoughtAll l k stage t mid pending new pending' → Holds l new σ (stage - 1) (t + 1 + l.lag) × Seeking l k new σ pending' stage 0 (t + 1)
  sought-turn k says H σ fits cells mid new pending pending' stage t lt held kept h sought =
      let e : t + l.lag + 1 ≡ t + 1 + l.lag = omega arith in
      let g = sought says H σ fits lt held (seeking-kept k cells mid σ pending stage t kept h) in (
        subst (λ n. Holds l new σ (stage - 1) n) e g.0,
        g.1,
      )
