-- How the unchecked table is filled.
use Rattle.std.specs.Prelude.{ℕ, ◌+◌, cond, List, replicate, Some, None, fold, nat_lt, slice_set}
use Rattle.std.specs.Option.{option_or}
use Rattle.lexer.specs.declared.token.Atom.{Atom}
use Rattle.lexer.specs.declared.token.Atom.TheVariants as atom
use Rattle.syntax.specs.declared.draft.Operand.{Operand}
use Rattle.syntax.specs.declared.draft.Operand.TheVariants as operand
use Rattle.syntax.specs.declared.draft.Node.{Node}
use Rattle.syntax.specs.declared.draft.Node.TheVariants as node
use Rattle.syntax.specs.declared.draft.Draft.{Draft}
use Rattle.syntax.specs.Terms.{Term, name, channel, literal, truth, before, between, chosen, Definition}

-- A text has at most 32 equations.
abbrev pub equation_limit : ℕ
equation_limit = 32

-- At most 64 operand rows are kept.
abbrev pub row_limit : ℕ
row_limit = 64

-- The node of a word that stands by itself, used at a place.
abbrev pub node_of : Atom → ℕ → Node
node_of (atom.Name n) p = node.Name n p
node_of (atom.Channel k) p = node.Channel k
node_of (atom.Literal v) p = node.Literal v
node_of (atom.Truth b) p = node.Truth b

-- The draft of no equation.
abbrev pub empty : Draft
empty = record {
  equations = replicate equation_limit (record { head = atom.Literal 0; place = 0; node = node.Literal 0; rows = 0 });
  count = 0;
  excess = None;
  operands = replicate row_limit (node.Literal 0);
  rows = 0;
  end = 0;
}

-- The draft with one operand row more, if there is room for it.
abbrev pub with_row : Draft → Node → Draft
with_row d n = cond (nat_lt d.rows row_limit) (record { equations = d.equations; count = d.count; excess = d.excess; operands = slice_set d.operands d.rows n; rows = d.rows + 1; end = d.end }) d

-- The operand that a node becomes, and the draft after that: a name makes no row.
abbrev pub placed : Draft → Node → Operand × Draft
placed d (node.Name n p) = (operand.Name n p, d)
placed d (node.Channel k) = (operand.Row d.rows, with_row d (node.Channel k))
placed d (node.Literal v) = (operand.Row d.rows, with_row d (node.Literal v))
placed d (node.Truth b) = (operand.Row d.rows, with_row d (node.Truth b))
placed d (node.Prefix u a) = (operand.Row d.rows, with_row d (node.Prefix u a))
placed d (node.Infix op a b) = (operand.Row d.rows, with_row d (node.Infix op a b))
placed d (node.Choice a b c) = (operand.Row d.rows, with_row d (node.Choice a b c))

-- The same of what was read, with the draft after it.
abbrev pub placed_part : Node × Draft → Operand × Draft
placed_part x = placed x.1 x.0

-- The draft with one equation more, if there is room for it; else the place of the first that there is none for is kept.
abbrev pub defined : Draft → Atom → ℕ → Node → Draft
defined d a p n =
    cond (nat_lt d.count equation_limit)
    (record { equations = slice_set d.equations d.count (record { head = a; place = p; node = n; rows = d.rows }); count = d.count + 1; excess = d.excess; operands = d.operands; rows = d.rows; end = d.end })
    (record { equations = d.equations; count = d.count; excess = option_or d.excess (Some p); operands = d.operands; rows = d.rows; end = d.end })

-- What an expression is at its outermost operator, and the draft after it was read: each operand in turn is read and placed.
abbrev pub built : Draft → Term → Node × Draft
built d (name n p) = (node.Name n p, d)
built d (channel k) = (node.Channel k, d)
built d (literal v) = (node.Literal v, d)
built d (truth b) = (node.Truth b, d)
built d (before u t) =
    let x = placed_part (built d t) in
    (node.Prefix u x.0, x.1)
built d (between op l r) =
    let x = placed_part (built d l) in
    let y = placed_part (built x.1 r) in
    (node.Infix op x.0 y.0, y.1)
built d (chosen c a b) =
    let x = placed_part (built d c) in
    let y = placed_part (built x.1 a) in
    let z = placed_part (built y.1 b) in
    (node.Choice x.0 y.0 z.0, z.1)

-- The draft after one equation more was read.
abbrev pub extended : Draft → Definition → Draft
extended d e = let x = built d e.term in defined x.1 e.head e.place x.0

-- The draft after the equations were read.
abbrev pub drafted : List Definition → Draft
drafted es = fold extended empty es

-- The draft of a text: that of its equations, with the place of the closing `end`.
abbrev pub ended_at : ℕ → Draft → Draft
ended_at p d = record { equations = d.equations; count = d.count; excess = d.excess; operands = d.operands; rows = d.rows; end = p }
