-- Every row that is read stands in the table. Assumes nothing.
use Rattle.std.proofs.Common.{◌≡◌, ℕ, ◌+◌, ◌<◌, ◌≤◌, Bool, ltb, List, [], ◌∷◌, length, Some, None, sym, subst, arith}
use Rattle.std.specs.List.{AllByRecursion, position_or_len}
use Rattle.std.specs.Prelude.{unwrap_or}
use Rattle.std.proofs.ByRecursion.{All-get_or, All-map}
use Rattle.std.proofs.lemmas.List.{length-map}
use Rattle.std.proofs.lemmas.Bool.{cond_both, ltb-true}
use Rattle.lexer.specs.declared.token.Name.{Name}
use Rattle.lexer.specs.declared.token.Infix.{Infix}
use Rattle.lexer.specs.declared.token.Infix.TheVariants as between
use Rattle.lexer.specs.declared.token.Prefix.{Prefix}
use Rattle.lexer.specs.declared.token.Prefix.TheVariants as before
use Rattle.reading.specs.declared.rows.Row.{Row}
use Rattle.reading.specs.declared.rows.Row.TheVariants.{Literal}
use Rattle.theory.specs.Potential.{edges}
use Rattle.table.specs.Edges.{Closed}
use Rattle.syntax.specs.declared.draft.Equation.{Equation}
use Rattle.syntax.specs.declared.draft.Node.{Node}
use Rattle.syntax.specs.declared.draft.Node.TheVariants as node
use Rattle.syntax.specs.declared.draft.Operand.{Operand}
use Rattle.syntax.specs.declared.draft.Operand.TheVariants as operand
use Rattle.load.specs.Heads.{defines, found}
use Rattle.load.specs.Rows.{operand_row, prefix_row, infix_row, node_row, table_rows}

-- The equation that is found is one of them.
found-low : (n : Name) (es : List Equation) (count : ℕ) → 0 < count → length es ≤ count → unwrap_or (found n es) 0 < count
found-low n es count h l =
    let p : Equation → Bool = λ e. defines n e.head in
    let m = position_or_len p es in
    cond_both (ltb m (length es)) (Some m) None (λ o. unwrap_or o 0 < count) (λ e. let k = ltb-true _ _ e in omega arith) (λ e. h)

-- A row reads only rows below the count.
abbrev pub ReadsBelow : ℕ → Row → Type 0
ReadsBelow count r = AllByRecursion (λ e. e.1 < count) (edges r)

prefix-below : (count : ℕ) (u : Prefix) (x : ℕ) → x < count → ReadsBelow count (prefix_row u x)
prefix-below count before.Negate x h = (h, tt)
prefix-below count before.First x h = (h, tt)
prefix-below count before.Next x h = (h, tt)
prefix-below count before.Not x h = (h, tt)

infix-below : (count : ℕ) (op : Infix) (x y : ℕ) → x < count → y < count → ReadsBelow count (infix_row op x y)
infix-below count between.Fby x y h k = (h, (k, tt))
infix-below count between.Asa x y h k = (h, (k, tt))
infix-below count between.Or x y h k = (h, (k, tt))
infix-below count between.And x y h k = (h, (k, tt))
infix-below count between.Eq x y h k = (h, (k, tt))
infix-below count between.Ne x y h k = (h, (k, tt))
infix-below count between.Lt x y h k = (h, (k, tt))
infix-below count between.Le x y h k = (h, (k, tt))
infix-below count between.Gt x y h k = (h, (k, tt))
infix-below count between.Ge x y h k = (h, (k, tt))
infix-below count between.Add x y h k = (h, (k, tt))
infix-below count between.Sub x y h k = (h, (k, tt))
infix-below count between.Mul x y h k = (h, (k, tt))
infix-below count between.Div x y h k = (h, (k, tt))

module _ (es : List Equation) (count : ℕ) (some : 0 < count) (few : length es ≤ count) where
  name-low : (n : Name) → unwrap_or (found n es) 0 < count
  name-low n = found-low n es count some few

  operand_low : (o : Operand) → operand_row es count o < count
  operand_low (operand.Name n p) = name-low n
  operand_low (operand.Row k) = cond_both (ltb (length es + k) count) (length es + k) 0 (λ x. x < count) (λ e. ltb-true _ _ e) (λ e. some)

  node-below : (x : Node) → ReadsBelow count (node_row es count x)
  node-below (node.Name n p) = (name-low n, tt)
  node-below (node.Channel k) = tt
  node-below (node.Literal v) = tt
  node-below (node.Truth b) = tt
  node-below (node.Prefix u a) = prefix-below count u (operand_row es count a) (operand_low a)
  node-below (node.Infix op a b) = infix-below count op (operand_row es count a) (operand_row es count b) (operand_low a) (operand_low b)
  node-below (node.Choice a b c) = (operand_low a, (operand_low b, (operand_low c, tt)))

every : {X : Type 0} (P : X → Type 0) → ((x : X) → P x) → (xs : List X) → AllByRecursion P xs
every P f [] = tt
every P f (x ∷ xs) = (f x, every P f xs)

pub closed_rows : (es : List Equation) (xs : List Node) → 0 < length es → length es ≤ length xs → Closed (table_rows es xs)
closed_rows es xs h l =
    let count = length xs in
    let all : AllByRecursion (ReadsBelow count) (table_rows es xs) =
    All-map (ReadsBelow count) (node_row es count) xs (every (λ x. ReadsBelow count (node_row es count x)) (node-below es count (omega arith) l) xs) in
    λ r k. All-get_or (ReadsBelow (length (table_rows es xs))) (table_rows es xs) r (Literal 0) k (subst (λ n. AllByRecursion (ReadsBelow n) (table_rows es xs)) (sym (length-map xs (node_row es count))) all)

pub closed_table : (es : List Equation) (xs : List Node) (rows : List Row) → rows ≡ table_rows es xs → 0 < length es → length es ≤ length xs → Closed rows
closed_table es xs rows e h l = subst (λ x. Closed x) (sym e) (closed_rows es xs h l)
