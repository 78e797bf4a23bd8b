-- The texts of the language, by trees and the words that a tree is written in.
use Rattle.std.specs.Prelude.{◌≡◌, ℕ, ◌≤◌, List, [], ◌∷◌, ◌++◌}
use Rattle.lexer.specs.declared.token.Atom.{Atom}
use Rattle.lexer.specs.declared.token.Atom.TheVariants as atom
use Rattle.lexer.specs.declared.token.Infix.{Infix}
use Rattle.lexer.specs.declared.token.Infix.TheVariants.{Fby, Asa, Or, And, Eq, Ne, Lt, Le, Gt, Ge, Add, Sub, Mul, Div}
use Rattle.lexer.specs.declared.token.Prefix.{Prefix}
use Rattle.lexer.specs.declared.token.Prefix.TheVariants.{Negate, First, Next, Not}
use Rattle.lexer.specs.declared.token.Mark.TheVariants.{Compute, Output, Where, End, If, Then, Else, Open, Close, Equals, Semicolon}
use Rattle.lexer.specs.declared.token.Token.{Token}
use Rattle.lexer.specs.declared.token.Token.TheVariants as word
use Rattle.grammar.specs.declared.levels.Levels.{Levels}

-- The levels of the operators between two operands.
abbrev pub levels : Infix → Levels
levels Fby = record { own = 1; left = 2; right = 1 }
levels Asa = record { own = 2; left = 3; right = 3 }
levels Or = record { own = 4; left = 4; right = 5 }
levels And = record { own = 5; left = 5; right = 6 }
levels Eq = record { own = 7; left = 8; right = 8 }
levels Ne = record { own = 7; left = 8; right = 8 }
levels Lt = record { own = 7; left = 8; right = 8 }
levels Le = record { own = 7; left = 8; right = 8 }
levels Gt = record { own = 7; left = 8; right = 8 }
levels Ge = record { own = 7; left = 8; right = 8 }
levels Add = record { own = 8; left = 8; right = 9 }
levels Sub = record { own = 8; left = 8; right = 9 }
levels Mul = record { own = 9; left = 9; right = 10 }
levels Div = record { own = 9; left = 9; right = 10 }

-- The level of a prefix operator, which is its operand's too.
abbrev pub prefix_level : Prefix → ℕ
prefix_level Negate = 10
prefix_level First = 10
prefix_level Next = 10
prefix_level Not = 6

-- The level of `if`, which is that of its three operands too.
abbrev pub choice_level : ℕ
choice_level = 3

-- The level of what is no operator, and of brackets.
abbrev pub atom_level : ℕ
atom_level = 11

-- An expression, with its brackets.
pub data Tree : Type 0 where
  leaf : Atom → Tree
  bracket : Tree → Tree
  prefix : Prefix → Tree → Tree
  infix' : Infix → Tree → Tree → Tree
  choice : Tree → Tree → Tree → Tree

-- The own level of an expression.
abbrev pub level_of : Tree → ℕ
level_of (leaf a) = atom_level
level_of (bracket t) = atom_level
level_of (prefix u t) = prefix_level u
level_of (infix' op l r) = (levels op).own
level_of (choice c a b) = choice_level

-- An expression of level n: its own level is n or a higher number, and each operand is of the level that the operator asks.
abbrev pub Fits : ℕ → Tree → Type 0
Fits n (leaf a) = n ≤ atom_level
Fits n (bracket t) = (n ≤ atom_level) × Fits 1 t
Fits n (prefix u t) = (n ≤ prefix_level u) × Fits (prefix_level u) t
Fits n (infix' op l r) = (n ≤ (levels op).own) × Fits (levels op).left l × Fits (levels op).right r
Fits n (choice c a b) = (n ≤ choice_level) × Fits choice_level c × Fits choice_level a × Fits choice_level b

-- The word of a prefix operator.
abbrev pub symbol : Prefix → Token
symbol Negate = word.Infix Sub
symbol First = word.First
symbol Next = word.Next
symbol Not = word.Not

-- The words that an expression is written in.
abbrev pub words : Tree → List Token
words (leaf a) = word.Atom a ∷ []
words (bracket t) = word.Mark Open ∷ (words t ++ word.Mark Close ∷ [])
words (prefix u t) = symbol u ∷ words t
words (infix' op l r) = words l ++ word.Infix op ∷ words r
words (choice c a b) = word.Mark If ∷ (words c ++ word.Mark Then ∷ (words a ++ word.Mark Else ∷ words b))

-- An equation: the name or channel on its left, and its expression.
pub record Equation : Type 0 where
  pub head : Atom
  pub tree : Tree

-- The words that an equation is written in.
abbrev pub equation_words : Equation → List Token
equation_words e = word.Atom e.head ∷ word.Mark Equals ∷ words e.tree

-- Equations parted by semicolons, and `end`.
abbrev pub body_words : Equation → List Equation → List Token
body_words e [] = equation_words e ++ word.Mark End ∷ []
body_words e (f ∷ fs) = equation_words e ++ word.Mark Semicolon ∷ body_words f fs

-- The words of a text: the header, and then its equations.
abbrev pub text_words : Equation → List Equation → List Token
text_words e es = word.Mark Compute ∷ word.Mark Output ∷ word.Mark Where ∷ body_words e es

-- A name or a channel may stand on the left.
abbrev pub Nameable : Atom → Type 0
Nameable (atom.Name n) = Unit {0}
Nameable (atom.Channel k) = Unit {0}
Nameable (atom.Literal v) = ⊥
Nameable (atom.Truth b) = ⊥

-- An equation of the grammar.
abbrev pub Formed : Equation → Type 0
Formed e = Nameable e.head × Fits 1 e.tree

-- Each is an equation of the grammar.
abbrev pub AllFormed : List Equation → Type 0
AllFormed [] = Unit {0}
AllFormed (e ∷ es) = Formed e × AllFormed es

-- The words ws are a text of the grammar: one or more equations, written out.
pub record Text (ws : List Token) : Type 0 where
  pub first : Equation
  pub others : List Equation
  pub formed : Formed first × AllFormed others
  pub written : ws ≡ text_words first others

-- Some text of the grammar begins with ws.
abbrev pub Viable : List Token → Type 0
Viable ws = (rest : List Token) × Text (ws ++ rest)
