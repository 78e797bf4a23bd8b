-- A loop over a checked table finds each reading where it looks for it.
use Rattle.std.proofs.Common.{◌≡◌, ℕ, ◌+◌, ◌-◌, ◌<◌, ◌≤◌, Bool, true, cond, List, length, get_or, take, sum_by, sum, sym, refl, ap, ◌∙◌, subst, inl, inr, arith}
use Rattle.std.specs.List.{ContainsAt as Has, AllByRecursion}
use Rattle.std.proofs.lemmas.List.{get_or-take, take-take, take_all}
use Rattle.std.proofs.lemmas.List.Sums.{sum_by_more, sum_by-take-le}
use Rattle.std.proofs.ByRecursion.{all-has, All-weaker, all_has_itself}
use Rattle.reading.specs.declared.rows.Row.{Row}
use Rattle.reading.specs.declared.rows.Row.TheVariants.{Literal, Truth, Channel, Same, First, Next, Fby, Asa, If, And, Or, Not, Negate, Compute, Relate}
use Rattle.theory.specs.Rule.{row_at}
use Rattle.theory.specs.Potential.{Label, level, ahead, back, beyond, edges}
use Rattle.graph.specs.Labels.{plus, minus, infinite}
use Rattle.graph.specs.Depths.{asks}
use Rattle.table.specs.declared.place.Place.{Place}
use Rattle.table.specs.Edges.{labelled, edge_of, table_edges}
use Rattle.table.specs.Layout.{Layout, Planned, Edge, Side, EachEdge, EachSide, place_at, position_at, no_place, is_asa}
use Rattle.table.specs.declared.schedule.Schedule.{Schedule}
use Rattle.table.specs.Tables.{held, asas, place_of, Checked, layout}
use Rattle.table.specs.Laws.{TablePlans}
use Rattle.table.proofs.Edges.{has-edge}

-- What holds along each finite edge, and along each infinite one.
pub each-edge : (E : Label → ℕ → Type 0) (P : ℕ → ℕ → ℕ → Type 0) → ((x : ℕ) → E level x → P x 0 0) → ((x : ℕ) → E ahead x → P x 1 0)
    → ((x : ℕ) → E back x → P x 0 1) → (row : Row) → AllByRecursion (λ e. E e.0 e.1) (edges row) → EachEdge P row
each-edge E P l a b (Literal n) e = tt
each-edge E P l a b (Truth v) e = tt
each-edge E P l a b (Channel c) e = tt
each-edge E P l a b (Same x) e = l x e.0
each-edge E P l a b (First x) e = l x e.0
each-edge E P l a b (Next x) e = a x e.0
each-edge E P l a b (Fby x y) e = (l x e.0, b y e.1.0)
each-edge E P l a b (Asa x y) e = tt
each-edge E P l a b (If c x y) e = (l c e.0, l x e.1.0, l y e.1.1.0)
each-edge E P l a b (And x y) e = (l x e.0, l y e.1.0)
each-edge E P l a b (Or x y) e = (l x e.0, l y e.1.0)
each-edge E P l a b (Not x) e = l x e.0
each-edge E P l a b (Negate x) e = l x e.0
each-edge E P l a b (Compute o x y) e = (l x e.0, l y e.1.0)
each-edge E P l a b (Relate o x y) e = (l x e.0, l y e.1.0)

pub each-side : (E : Label → ℕ → Type 0) (P : ℕ → Type 0) → ((x : ℕ) → E beyond x → P x) → (row : Row) → AllByRecursion (λ e. E e.0 e.1) (edges row)
    → EachSide P row
each-side E P s (Literal n) e = tt
each-side E P s (Truth v) e = tt
each-side E P s (Channel c) e = tt
each-side E P s (Same x) e = tt
each-side E P s (First x) e = tt
each-side E P s (Next x) e = tt
each-side E P s (Fby x y) e = tt
each-side E P s (Asa x y) e = (s x e.0, s y e.1.0)
each-side E P s (If c x y) e = tt
each-side E P s (And x y) e = tt
each-side E P s (Or x y) e = tt
each-side E P s (Not x) e = tt
each-side E P s (Negate x) e = tt
each-side E P s (Compute o x y) e = tt
each-side E P s (Relate o x y) e = tt

-- The parts of a sum lie one after another.
pub sum_step : {X : Type 0} (f : X → ℕ) (xs : List X) (r q : ℕ) (d : X) → r < q → q ≤ length xs
    → sum_by f (take r xs) + f (get_or xs r d) ≤ sum_by f (take q xs)
sum_step f xs r q d h k =
    let lt : r < length xs = omega arith in
    omega (arith, sum_by_more f xs r d lt, sum_by-take-le f (take q xs) (r + 1), ap (sum_by f) (take-take (r + 1) q xs (omega arith)))

pub held-asa : (row : Row) → is_asa row ≡ true → held row ≡ 1
held-asa row e = ap (λ (b : Bool). cond b 1 0) e

module _ (rows : List Row) (result : ℕ) (t : Schedule) (c : Checked rows result t) where
  abbrev laid : Layout
  laid =
      record {
        rows = rows;
        places = take (length rows) t.places;
        order = take (length rows) t.order;
        lag = t.lag;
        stages = t.stages;
        result = result;
        windows = t.windows;
        size = t.size;
      }

  abbrev lead : ℕ → ℕ
  lead r = get_or t.plan.lead r 0

  abbrev depth : ℕ → ℕ
  depth r = get_or t.plan.depth r 0

  abbrev stage : ℕ → ℕ
  stage r = get_or t.plan.stage r 0

  place_at-laid : (r : ℕ) → r < length rows → place_at laid r ≡ place_of rows t.plan c.positions t.lag t.windows r
  place_at-laid r h = get_or-take (length rows) t.places r no_place h ∙ c.places_are r h

  delay-at : (r : ℕ) → r < length rows → (place_at laid r).delay ≡ t.lag - lead r
  delay-at r h = ap (λ (q : Place). q.delay) (place_at-laid r h)

  depth-at : (r : ℕ) → r < length rows → (place_at laid r).depth ≡ depth r
  depth-at r h = ap (λ (q : Place). q.depth) (place_at-laid r h)

  start-at : (r : ℕ) → r < length rows → (place_at laid r).start ≡ sum (take r t.plan.depth)
  start-at r h = ap (λ (q : Place). q.start) (place_at-laid r h)

  stage_at : (r : ℕ) → r < length rows → (place_at laid r).stage ≡ stage r
  stage_at r h = ap (λ (q : Place). q.stage) (place_at-laid r h)

  settled_at : (r : ℕ) → r < length rows → (place_at laid r).settled ≡ t.windows + asas (take r rows)
  settled_at r h = ap (λ (q : Place). q.settled) (place_at-laid r h)

  position_at-laid : (r : ℕ) → r < length rows → position_at laid r ≡ get_or c.positions r 0
  position_at-laid r h = ap (λ (q : Place). q.position) (place_at-laid r h)

  ordered : (k : ℕ) → k < length (take (length rows) t.order)
      → (get_or (take (length rows) t.order) k 0 < length rows) × (position_at laid (get_or (take (length rows) t.order) k 0) ≡ k)
  ordered k h = (below, position_at-laid (get_or (take (length rows) t.order) k 0) below ∙ c.inverse k (omega (arith, c.order_long)))
    where
      below : get_or (take (length rows) t.order) k 0 < length rows
      below = omega (arith, c.listed.below k h, c.order_long)

  stood : (r : ℕ) → r < length rows
      → (position_at laid r < length (take (length rows) t.order)) × (get_or (take (length rows) t.order) (position_at laid r) 0 ≡ r)
  stood r h = subst (λ (j : ℕ). (j < length (take (length rows) t.order)) × (get_or (take (length rows) t.order) j 0 ≡ r)) (sym here) (k.1, k.2 0)
    where
      k : Has (take (length rows) t.order) r
      k = c.listed.all r (omega (arith, c.order_long))

      here : position_at laid r ≡ k.0
      here = ap (position_at laid) (sym (k.2 0)) ∙ (ordered k.0 k.1).1

  -- an edge from row a to row x
  abbrev Along : ℕ → Label → ℕ → Type 0
  Along a l x = (x < length rows) × Has (table_edges rows) (edge_of a (l, x))

  along : (a : ℕ) → a < length rows → AllByRecursion (λ e. Along a e.0 e.1) (edges (row_at rows a))
  along a h =
      All-weaker (Has (edges (row_at rows a))) _
      (λ e k. (all-has (λ e. e.1 < length rows) (edges (row_at rows a)) e (c.closed a h) k, has-edge rows a e h k)) (edges (row_at rows a))
      (all_has_itself (edges (row_at rows a)))

  asked : (a : ℕ) (l : Label) (x : ℕ) → Along a l x → asks (labelled l) (lead a) (lead x) < depth x
  asked a l x e = (c.plan_is.depths x (omega (arith, e.0))).every _ (inr (inr (edge_of a (l, x), e.1, refl, refl)))

  edge : (a : ℕ) → a < length rows → (l : Label) (x : ℕ) (up down : ℕ) → infinite (labelled l) ≡ 0 → plus (labelled l) ≡ up → minus (labelled l) ≡ down
      → lead x + down < lead a + up + depth x → Along a l x → Edge laid (position_at laid) a x up down
  edge a h l x up down finite u d deep e =
      let rise = c.plan_is.rise (edge_of a (l, x)) e.1 finite in
      let fall = c.plan_is.stages_fall (edge_of a (l, x)) e.1 in
      let la = c.greatest_lead.every a h in
      let lx = c.greatest_lead.every x e.0 in
      record {
        row = e.0;
        stage = omega (arith, stage_at x e.0, stage_at a h, fall);
        made = omega (arith, delay-at x e.0, delay-at a h, rise, la, lx, u, d);
        kept = omega (arith, delay-at x e.0, delay-at a h, depth-at x e.0, rise, la, lx, u, d, deep);
        before =
            λ same.
            c.in_step (edge_of a (l, x)) e.1 finite (omega (arith, same, delay-at x e.0, delay-at a h, la, lx, u, d)) (position_at laid a) (position_at laid x)
            (stood a h).0 (stood x e.0).0 (stood a h).1 (stood x e.0).1;
      }

  side : (a : ℕ) → a < length rows → (x : ℕ) → Along a beyond x → Side laid a x
  side a h x e =
      record {
        row = e.0;
        stage = omega (arith, stage_at x e.0, stage_at a h, c.plan_is.stages_fall (edge_of a (beyond, x)) e.1);
        kept = omega (arith, delay-at x e.0, depth-at x e.0, c.greatest_lead.every x e.0, asked a beyond x e);
      }

  pub planned : Planned laid
  planned =
      record {
        places = c.places_long;
        listed = stood;
        ordered = ordered;
        edges =
            λ r h.
            each-edge (Along r) (Edge laid (position_at laid) r) (λ x e. edge r h level x 0 0 refl refl refl (omega (arith, asked r level x e)) e)
            (λ x e. edge r h ahead x 1 0 refl refl refl (omega (arith, asked r ahead x e)) e)
            (λ x e. edge r h back x 0 1 refl refl refl (omega (arith, asked r back x e)) e) (row_at rows r) (along r h);
        sides = λ r h. each-side (Along r) (Side laid r) (side r h) (row_at rows r) (along r h);
        delayed = λ r h. omega (arith, delay-at r h);
        staged = λ r h. omega (arith, stage_at r h, c.greatest_stage.every r h);
        deep = λ r h. omega (arith, depth-at r h, (c.plan_is.depths r (omega (arith, c.few))).every 0 (inl refl));
        apart =
            λ r q h k.
            omega (arith, start-at r (omega arith), depth-at r (omega arith), start-at q k, sum_step (λ x. x) t.plan.depth r q 0 h (omega (arith, c.depths_long)));
        inside = λ r h. omega (arith, start-at r h, depth-at r h, c.windows_are, sum_step (λ x. x) t.plan.depth r (length rows) 0 h c.depths_long);
        outside =
            λ r h e. (
              omega (arith, settled_at r h),
              omega (
                arith,
                settled_at r h,
                c.cells,
                held-asa (row_at rows r) e,
                sum_step held rows r (length rows) (Literal 0) h (omega arith),
                ap asas (take_all (length rows) rows (omega arith)),
              ),
            );
        alone =
            λ r q h k e f.
            omega (arith, settled_at r (omega arith), settled_at q k, held-asa (row_at rows r) e, sum_step held rows r q (Literal 0) h (omega arith));
        fits = omega (arith, c.cells);
        result = c.result_within;
        shown =
            omega (
              arith,
              delay-at result c.result_within,
              depth-at result c.result_within,
              c.greatest_lead.every result c.result_within,
              (c.plan_is.depths result (omega (arith, c.few))).every (lead result) (inr (inl (refl, refl))),
            );
        short = let k = c.greatest_lead.some in omega (arith, k.2, c.plan_is.leads_small k.0 (omega (arith, k.1, c.few)));
      }

pub table-plans : TablePlans
table-plans rows result t c = subst Planned (sym same) (planned rows result t c)
  where
    same : layout t ≡ laid rows result t c
    same =
        λ i.
        record {
          rows = c.rows_are i;
          places = take (c.count_is i) t.places;
          order = take (c.count_is i) t.order;
          lag = t.lag;
          stages = t.stages;
          result = c.result_is i;
          windows = t.windows;
          size = t.size;
        }
