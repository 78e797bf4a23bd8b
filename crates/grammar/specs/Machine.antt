-- A machine that reads a text word by word: a stack of what is begun, and whether an operand is due or was read.
use Rattle.std.specs.Prelude.{◌≡◌, ℕ, Bool, true, false, cond, ◌&&◌, List, [], ◌∷◌, ◌++◌, Some, None, Option, ◌==◌, nat_le}
use Rattle.lexer.specs.declared.token.Atom.{Atom}
use Rattle.lexer.specs.declared.token.Atom.TheVariants as atom
use Rattle.lexer.specs.declared.token.Infix.{Infix}
use Rattle.lexer.specs.declared.token.Infix.TheVariants.{Fby, Asa, Or, And, Eq, Ne, Lt, Le, Gt, Ge, Add, Sub, Mul, Div}
use Rattle.lexer.specs.declared.token.Prefix.{Prefix}
use Rattle.lexer.specs.declared.token.Prefix.TheVariants.{Negate, First, Next, Not}
use Rattle.lexer.specs.declared.token.Mark.{Mark}
use Rattle.lexer.specs.declared.token.Mark.TheVariants.{Compute, Output, Where, End, If, Then, Else, Open, Close, Equals, Semicolon}
use Rattle.lexer.specs.declared.token.Token.{Token}
use Rattle.lexer.specs.declared.token.Token.TheVariants as word
use Rattle.grammar.specs.Grammar.{levels, prefix_level, choice_level, Tree, leaf, bracket, prefix, infix', choice, level_of, Equation}

-- What is begun and waits for an expression. The number is the level of the expression that the whole stands in.
pub data Frame : Type 0 where
  group : ℕ → Frame
  operand : ℕ → Prefix → Frame
  right : ℕ → Infix → Tree → Frame
  test : ℕ → Frame
  branch : ℕ → Tree → Frame
  other : ℕ → Tree → Tree → Frame

-- An expression of a level is due, or an expression was read that stands in one of the level.
pub data Spot : Type 0 where
  due : List Frame → ℕ → Spot
  read : List Frame → ℕ → Tree → Spot

-- The operator between two operands that a word is.
abbrev pub as_infix : Token → Option Infix
as_infix (word.Atom a) = None
as_infix (word.Infix op) = Some op
as_infix word.First = None
as_infix word.Next = None
as_infix word.Not = None
as_infix (word.Mark m) = None

-- The operator, if a left operand of level `have` can go on by it in an expression of level n.
abbrev pub fitting : ℕ → ℕ → Infix → Option Infix
fitting n have op = cond (nat_le n (levels op).own && nat_le (levels op).left have) (Some op) None

-- What f makes of a value that is there.
abbrev pub and_then : {A B : Type 0} → Option A → (A → Option B) → Option B
and_then None f = None
and_then (Some a) f = f a

-- The operator by which an expression of level n goes on, if the word is one and its left side has the level `have`.
abbrev pub takes : ℕ → ℕ → Token → Option Infix
takes n have w = and_then (as_infix w) (fitting n have)

-- The operator is taken by the expression t of level n, and its right operand is due; without one the other spot.
abbrev pub go_on : Option Infix → List Frame → ℕ → Tree → Option Spot → Option Spot
go_on None fs n t no_more = no_more
go_on (Some op) fs n t no_more = Some (due (right n op t ∷ fs) (levels op).right)

-- A number for each mark, to tell them apart.
abbrev pub code : Mark → ℕ
code Compute = 0
code Output = 1
code Where = 2
code End = 3
code If = 4
code Then = 5
code Else = 6
code Open = 7
code Close = 8
code Equals = 9
code Semicolon = 10

-- Whether the word is the mark.
abbrev pub is : Mark → Token → Bool
is k (word.Atom a) = false
is k (word.Infix op) = false
is k word.First = false
is k word.Next = false
is k word.Not = false
is k (word.Mark m) = code k == code m

-- The spot where w is the mark k.
abbrev pub only : {A : Type 0} → Mark → Token → A → Option A
only k w s = cond (is k w) (Some s) None

-- The word w follows the whole expression t: each frame that t completes may go on with w.
abbrev pub close : List Frame → Tree → Token → Option Spot
close [] t w = None
close (group n ∷ fs) t w = only Close w (read fs n (bracket t))
close (operand n u ∷ fs) t w = go_on (takes n (prefix_level u) w) fs n (prefix u t) (close fs (prefix u t) w)
close (right n op l ∷ fs) t w = go_on (takes n (levels op).own w) fs n (infix' op l t) (close fs (infix' op l t) w)
close (test n ∷ fs) t w = only Then w (due (branch n t ∷ fs) choice_level)
close (branch n c ∷ fs) t w = only Else w (due (other n c t ∷ fs) choice_level)
close (other n c a ∷ fs) t w = go_on (takes n choice_level w) fs n (choice c a t) (close fs (choice c a t) w)

-- The minus sign stands before an operand too.
abbrev pub minus : Infix → Option Prefix
minus Fby = None
minus Asa = None
minus Or = None
minus And = None
minus Eq = None
minus Ne = None
minus Lt = None
minus Le = None
minus Gt = None
minus Ge = None
minus Add = None
minus Sub = Some Negate
minus Mul = None
minus Div = None

-- An operator begins an expression of level n, if its own level allows it, and its operand is due.
abbrev pub begin_prefix : List Frame → ℕ → Option Prefix → Option Spot
begin_prefix fs n None = None
begin_prefix fs n (Some u) = cond (nat_le n (prefix_level u)) (Some (due (operand n u ∷ fs) (prefix_level u))) None

-- A mark begins an expression of level n: an `if`, or a bracket.
abbrev pub begin_mark : List Frame → ℕ → Mark → Option Spot
begin_mark fs n Compute = None
begin_mark fs n Output = None
begin_mark fs n Where = None
begin_mark fs n End = None
begin_mark fs n If = cond (nat_le n choice_level) (Some (due (test n ∷ fs) choice_level)) None
begin_mark fs n Then = None
begin_mark fs n Else = None
begin_mark fs n Open = Some (due (group n ∷ fs) 1)
begin_mark fs n Close = None
begin_mark fs n Equals = None
begin_mark fs n Semicolon = None

-- The operator before one operand that a word is.
abbrev pub as_prefix : Token → Option Prefix
as_prefix (word.Atom a) = None
as_prefix (word.Infix op) = minus op
as_prefix word.First = Some First
as_prefix word.Next = Some Next
as_prefix word.Not = Some Not
as_prefix (word.Mark m) = None

-- The first word of an expression of level n.
abbrev pub begin : List Frame → ℕ → Token → Option Spot
begin fs n (word.Atom a) = Some (read fs n (leaf a))
begin fs n (word.Infix op) = begin_prefix fs n (minus op)
begin fs n word.First = begin_prefix fs n (Some First)
begin fs n word.Next = begin_prefix fs n (Some Next)
begin fs n word.Not = begin_prefix fs n (Some Not)
begin fs n (word.Mark m) = begin_mark fs n m

-- The spot after one word more.
abbrev pub advance : Spot → Token → Option Spot
advance (due fs n) w = begin fs n w
advance (read fs n t) w = go_on (takes n (level_of t) w) fs n t (close fs t w)

-- A text: the words of the header that are still due, a name, its sign, an expression, or nothing more.
pub data State : Type 0 where
  header : List Mark → State
  name : List Equation → State
  equals : List Equation → Atom → State
  inside : List Equation → Atom → Spot → State
  ended : List Equation → State

-- Whether it may stand on the left of an equation.
abbrev pub nameable : Atom → Bool
nameable (atom.Name n) = true
nameable (atom.Channel k) = true
nameable (atom.Literal v) = false
nameable (atom.Truth b) = false

-- The first word of an equation, after some.
abbrev pub begin_equation : List Equation → Token → Option State
begin_equation es (word.Atom a) = cond (nameable a) (Some (equals es a)) None
begin_equation es (word.Infix op) = None
begin_equation es word.First = None
begin_equation es word.Next = None
begin_equation es word.Not = None
begin_equation es (word.Mark m) = None

-- The expression that is whole where all frames are complete.
abbrev pub whole : List Frame → Tree → Option Tree
whole [] t = Some t
whole (group n ∷ fs) t = None
whole (operand n u ∷ fs) t = whole fs (prefix u t)
whole (right n op l ∷ fs) t = whole fs (infix' op l t)
whole (test n ∷ fs) t = None
whole (branch n c ∷ fs) t = None
whole (other n c a ∷ fs) t = whole fs (choice c a t)

-- The expression that is whole at a spot.
abbrev pub whole_at : Spot → Option Tree
whole_at (due fs n) = None
whole_at (read fs n t) = whole fs t

-- A semicolon or `end` after a whole expression.
abbrev pub end_equation : List Equation → Atom → Option Tree → Token → Option State
end_equation es a None w = None
end_equation es a (Some t) w =
    let done = es ++ record { head = a; tree = t } ∷ [] in
    cond (is Semicolon w) (Some (name done)) (cond (is End w) (Some (ended done)) None)

-- The state inside an equation, if there is a spot, or else the other state.
abbrev pub enter : List Equation → Atom → Option Spot → Option State → Option State
enter es a None instead = instead
enter es a (Some s) instead = Some (inside es a s)

-- The state in which these words of the header are still due.
abbrev pub after_header : List Mark → State
after_header [] = name []
after_header (k ∷ ks) = header (k ∷ ks)

-- The state after one word more.
abbrev pub step : State → Token → Option State
step (header []) w = None
step (header (k ∷ ks)) w = only k w (after_header ks)
step (name es) w = begin_equation es w
step (equals es a) w = only Equals w (inside es a (due [] 1))
step (inside es a s) w = enter es a (advance s w) (end_equation es a (whole_at s) w)
step (ended es) w = None

-- The state after some words.
abbrev pub run : State → List Token → Option State
run s [] = Some s
run s (w ∷ ws) = and_then (step s w) (λ s'. run s' ws)

-- The state before the first word.
abbrev pub start : State
start = header (Compute ∷ Output ∷ Where ∷ [])

-- The word w goes into no operand at the right end of the tree.
abbrev pub Stops : Tree → Token → Type 0
Stops (leaf a) w = Unit {0}
Stops (bracket t) w = Unit {0}
Stops (prefix u t) w = (takes (prefix_level u) (level_of t) w ≡ None) × Stops t w
Stops (infix' op l r) w = (takes (levels op).right (level_of r) w ≡ None) × Stops r w
Stops (choice c a b) w = (takes choice_level (level_of b) w ≡ None) × Stops b w
