-- What an expression says once its brackets are gone, and where its names stand.
use Rattle.std.specs.Prelude.{ℕ, Bool, List, [], ◌∷◌, Some, None, Ok, Err, Option, Result}
use Rattle.lexer.specs.declared.lexer.NotAWord.{NotAWord}
use Rattle.lexer.specs.declared.lexer.Word.{Word}
use Rattle.lexer.specs.declared.token.Atom.{Atom}
use Rattle.lexer.specs.declared.token.Atom.TheVariants as atom
use Rattle.lexer.specs.declared.token.Infix.{Infix}
use Rattle.lexer.specs.declared.token.Name.{Name}
use Rattle.lexer.specs.declared.token.Prefix.{Prefix}
use Rattle.lexer.specs.Lexer.{skip, scan}
use Rattle.grammar.specs.Grammar.{Tree, leaf, bracket, prefix, infix', choice, Equation}

-- An expression without its brackets; a name has the place of its use.
pub data Term : Type 0 where
  name : Name → ℕ → Term
  channel : ℕ → Term
  literal : ℕ → Term
  truth : Bool → Term
  before : Prefix → Term → Term
  between : Infix → Term → Term → Term
  chosen : Term → Term → Term → Term

-- An equation: what stands on its left, the place of that, and its expression.
pub record Definition : Type 0 where
  pub head : Atom
  pub place : ℕ
  pub term : Term

-- The word that stands by itself at the place p.
abbrev pub at_place : ℕ → Atom → Term
at_place p (atom.Name n) = name n p
at_place p (atom.Channel k) = channel k
at_place p (atom.Literal v) = literal v
at_place p (atom.Truth b) = truth b

-- The place after an expression that starts at the place p, where `next` gives the place of the next word.
abbrev pub past : (ℕ → ℕ) → ℕ → Tree → ℕ
past next p (leaf a) = next p
past next p (bracket t) = next (past next (next p) t)
past next p (prefix u t) = past next (next p) t
past next p (infix' op l r) = past next (next (past next p l)) r
past next p (choice c a b) = past next (next (past next (next (past next (next p) c)) a)) b

-- The term of an expression that starts at the place p.
abbrev pub term_at : (ℕ → ℕ) → ℕ → Tree → Term
term_at next p (leaf a) = at_place p a
term_at next p (bracket t) = term_at next (next p) t
term_at next p (prefix u t) = before u (term_at next (next p) t)
term_at next p (infix' op l r) = between op (term_at next p l) (term_at next (next (past next p l)) r)
term_at next p (choice c a b) =
    let test = next p in
    let branch = next (past next test c) in
    let other = next (past next branch a) in
    chosen (term_at next test c) (term_at next branch a) (term_at next other b)

-- The place of the semicolon or `end` after an equation that starts at the place p: the name and its sign come first.
abbrev pub past_equation : (ℕ → ℕ) → ℕ → Equation → ℕ
past_equation next p e = past next (next (next p)) e.tree

-- The equation that starts at the place p.
abbrev pub definition_at : (ℕ → ℕ) → ℕ → Equation → Definition
definition_at next p e = record { head = e.head; place = p; term = term_at next (next (next p)) e.tree }

-- The equations from the place p on, each with the word after it.
abbrev pub definitions : (ℕ → ℕ) → ℕ → List Equation → List Definition
definitions next p [] = []
definitions next p (e ∷ es) = definition_at next p e ∷ definitions next (next (past_equation next p e)) es

-- The place after these equations and the word after the last.
abbrev pub past_all : (ℕ → ℕ) → ℕ → List Equation → ℕ
past_all next p [] = p
past_all next p (e ∷ es) = past_all next (next (past_equation next p e)) es

-- The place of the word after the last of the equations, the first being e.
abbrev pub closing : (ℕ → ℕ) → ℕ → Equation → List Equation → ℕ
closing next p e [] = past_equation next p e
closing next p e (f ∷ fs) = closing next (next (past_equation next p e)) f fs

-- Where the word ends that was found at the place p.
abbrev pub end_from : ℕ → Result (Option Word) NotAWord → ℕ
end_from p (Ok (Some w)) = w.end
end_from p (Ok None) = p
end_from p (Err e) = p

-- The place of the word after the one at p.
abbrev pub next_word : List ℕ → ℕ → ℕ
next_word bs p = skip bs (end_from p (scan bs p))

-- The place of the first equation, after the three words of the header.
abbrev pub body : List ℕ → ℕ
body bs = next_word bs (next_word bs (next_word bs (skip bs 0)))
