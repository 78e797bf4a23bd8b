-- The rows of a text.
use Rattle.std.specs.Prelude.{ℕ, ◌+◌, cond, List, ◌++◌, map, length, unwrap_or, nat_lt}
use Rattle.lexer.specs.declared.token.Infix.{Infix}
use Rattle.lexer.specs.declared.token.Infix.TheVariants as between
use Rattle.lexer.specs.declared.token.Prefix.{Prefix}
use Rattle.lexer.specs.declared.token.Prefix.TheVariants as before
use Rattle.reading.specs.declared.rows.Arithmetic.TheVariants as arithmetic
use Rattle.reading.specs.declared.rows.Relation.TheVariants as relation
use Rattle.reading.specs.declared.rows.Row.{Row}
use Rattle.reading.specs.declared.rows.Row.TheVariants as row
use Rattle.syntax.specs.declared.draft.Equation.{Equation}
use Rattle.syntax.specs.declared.draft.Node.{Node}
use Rattle.syntax.specs.declared.draft.Node.TheVariants as node
use Rattle.syntax.specs.declared.draft.Operand.{Operand}
use Rattle.syntax.specs.declared.draft.Operand.TheVariants as operand
use Rattle.load.specs.Heads.{found}

-- The row of an operand, in a table of that many rows: the equation of a name, or an operand row, which stands after the
-- equations' rows. What has no row is row 0.
abbrev pub operand_row : List Equation → ℕ → Operand → ℕ
operand_row es count (operand.Name n p) = unwrap_or (found n es) 0
operand_row es count (operand.Row k) = cond (nat_lt (length es + k) count) (length es + k) 0

-- The row of an operator before its operand.
abbrev pub prefix_row : Prefix → ℕ → Row
prefix_row before.Negate x = row.Negate x
prefix_row before.First x = row.First x
prefix_row before.Next x = row.Next x
prefix_row before.Not x = row.Not x

-- The row of an operator between its operands.
abbrev pub infix_row : Infix → ℕ → ℕ → Row
infix_row between.Fby x y = row.Fby x y
infix_row between.Asa x y = row.Asa x y
infix_row between.Or x y = row.Or x y
infix_row between.And x y = row.And x y
infix_row between.Eq x y = row.Relate relation.Equal x y
infix_row between.Ne x y = row.Relate relation.Unequal x y
infix_row between.Lt x y = row.Relate relation.Less x y
infix_row between.Le x y = row.Relate relation.AtMost x y
infix_row between.Gt x y = row.Relate relation.Greater x y
infix_row between.Ge x y = row.Relate relation.AtLeast x y
infix_row between.Add x y = row.Compute arithmetic.Add x y
infix_row between.Sub x y = row.Compute arithmetic.Subtract x y
infix_row between.Mul x y = row.Compute arithmetic.Multiply x y
infix_row between.Div x y = row.Compute arithmetic.Divide x y

-- The row of a node. A bare name reads that name's row.
abbrev pub node_row : List Equation → ℕ → Node → Row
node_row es count (node.Name n p) = row.Same (unwrap_or (found n es) 0)
node_row es count (node.Channel k) = row.Channel k
node_row es count (node.Literal v) = row.Literal v
node_row es count (node.Truth b) = row.Truth b
node_row es count (node.Prefix u a) = prefix_row u (operand_row es count a)
node_row es count (node.Infix op a b) = infix_row op (operand_row es count a) (operand_row es count b)
node_row es count (node.Choice a b c) = row.If (operand_row es count a) (operand_row es count b) (operand_row es count c)

-- The nodes of all rows: the equations' own, and then the operands'.
abbrev pub nodes_of : List Equation → List Node → List Node
nodes_of es ns = map (λ e. e.node) es ++ ns

-- The rows of the nodes.
abbrev pub table_rows : List Equation → List Node → List Row
table_rows es xs = map (node_row es (length xs)) xs
