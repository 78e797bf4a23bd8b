-- Which edges a table has.
use Rattle.std.proofs.Common.{ℕ, zero, suc, ◌<◌, ◌≤◌, List, [], ◌∷◌, map, length, Err, ap, ◌∙◌, subst, inl, inr, arith}
use native.Mathlib.Decide.{ℕ_discrete}
use Rattle.std.specs.List.{ContainsAt as Has, AllByRecursion}
use Rattle.std.proofs.lemmas.List.{get_or-map, length-map}
use Rattle.std.proofs.ByRecursion.{All-append, All-map, All-weaker, all_has_itself, all-has, has_append_left, has_append_right}
use Rattle.reading.specs.declared.rows.Row.{Row}
use Rattle.theory.specs.Rule.{row_at}
use Rattle.theory.specs.Potential.{edges, Label}
use Rattle.graph.specs.declared.edges.Edge.{Edge}
use Rattle.graph.specs.declared.plans.Defect.{Defect}
use Rattle.graph.specs.declared.plans.Defect.TheVariants.{Malformed, Ring}
use Rattle.graph.specs.Labels.{Within, SomeOtherRing}
use Rattle.table.specs.Outcomes.{JudgedRows}
use Rattle.table.specs.Edges.{edge_of, row_edges, first_edges, table_edges, Closed}

pub has-map : {X Y : Type 0} (f : X → Y) (xs : List X) (x : X) → Has xs x → Has (map f xs) (f x)
has-map f xs x h = (h.0, rw length-map h.1, λ d. get_or-map f xs h.0 x d h.1 ∙ ap f (h.2 x))

pub has_first : (rows : List Row) (n r : ℕ) (e : Edge) → r < n → Has (row_edges r (row_at rows r)) e → Has (first_edges rows n) e
has_first rows zero r e h k = absurd (omega arith)
has_first rows (suc n) r e h k = elim (ℕ_discrete r n) [
  | yes q ↦ has_append_right (first_edges rows n) _ e (subst (λ (m : ℕ). Has (row_edges m (row_at rows m)) e) q k)
  | no q ↦ has_append_left (first_edges rows n) _ e (has_first rows n r e (omega (arith, q)) k)
]

-- What row r reads is an edge of the table.
pub has-edge : (rows : List Row) (r : ℕ) (e : Label × ℕ) → r < length rows → Has (edges (row_at rows r)) e → Has (table_edges rows) (edge_of r e)
has-edge rows r e h k = has_first rows (length rows) r (edge_of r e) h (has-map (edge_of r) (edges (row_at rows r)) e k)

pub all_first : (P : Edge → Type 0) (rows : List Row) (n : ℕ) → ((r : ℕ) → r < n → AllByRecursion (λ e. P (edge_of r e)) (edges (row_at rows r))) → AllByRecursion P (first_edges rows n)
all_first P rows zero f = tt
all_first P rows (suc n) f =
    All-append P (first_edges rows n) _ (all_first P rows n (λ r h. f r (omega arith))) (All-map P (edge_of n) (edges (row_at rows n)) (f n (omega arith)))

pub within_all : (n : ℕ) (r : ℕ) (es : List (Label × ℕ)) → r < n → AllByRecursion (λ e. e.1 < n) es → AllByRecursion (λ e. ((edge_of r e).from < n) × ((edge_of r e).to < n)) es
within_all n r [] h a = tt
within_all n r (e ∷ es) h a = ((h, a.0), within_all n r es h a.1)

pub edges-inside : (rows : List Row) → Closed rows → Within (length rows) (table_edges rows)
edges-inside rows closed e h =
    all-has (λ e. (e.from < length rows) × (e.to < length rows)) (table_edges rows) e
    (all_first (λ e. (e.from < length rows) × (e.to < length rows)) rows (length rows)
    (λ r k. within_all (length rows) r (edges (row_at rows r)) k (closed r k))) h

pub closed-from-within : (rows : List Row) → Within (length rows) (table_edges rows) → Closed rows
closed-from-within rows within r h =
    All-weaker (Has (edges (row_at rows r))) (λ e. e.1 < length rows) (λ e k. (within (edge_of r e) (has-edge rows r e h k)).1) (edges (row_at rows r))
    (all_has_itself (edges (row_at rows r)))

-- So the check of such rows is refused only for a ring.
pub ring-only : (rows : List Row) (result : ℕ) → Closed rows → length rows ≤ 64 → result < length rows → (d : Defect) → JudgedRows rows result (Err d) → SomeOtherRing (table_edges rows)
ring-only rows result closed low is Ring h = h
ring-only rows result closed low is Malformed (inl many) = absurd (omega arith)
ring-only rows result closed low is Malformed (inr (inl past)) = absurd (omega arith)
ring-only rows result closed low is Malformed (inr (inr out)) =
    let w = edges-inside rows closed out.0 out.1 in
    absurd (elim out.2 [ inl a ↦ (let k = w.0 in omega arith) | inr b ↦ (let k = w.1 in omega arith) ])
