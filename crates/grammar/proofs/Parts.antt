-- Small facts on the steps of the machine. Assumes nothing.
use Rattle.std.proofs.Common.{◌≡◌, ℕ, ◌≤◌, Bool, true, false, cond, ◌&&◌, leb, List, [], ◌∷◌, get_or, Some, None, sym, refl, ap, ◌∙◌, subst}
use Rattle.std.proofs.lemmas.Bool.{leb-true, and_parts, eqb-true, ne_eqb}
use Rattle.lexer.specs.declared.token.Atom.{Atom}
use Rattle.lexer.specs.declared.token.Atom.TheVariants as atom
use Rattle.lexer.specs.declared.token.Infix.{Infix}
use Rattle.lexer.specs.declared.token.Mark.{Mark}
use Rattle.lexer.specs.declared.token.Mark.TheVariants.{Compute, Output, Where, End, If, Then, Else, Open, Close, Equals, Semicolon}
use Rattle.lexer.specs.declared.token.Token.{Token}
use Rattle.lexer.specs.declared.token.Token.TheVariants as word
use Rattle.grammar.specs.Grammar.{levels, Tree, leaf, bracket, prefix, infix', choice, level_of, Fits, Equation}
use Rattle.grammar.specs.Machine.{takes, code, is, only, nameable, begin_equation}

pub some_is : {A : Type 0} {x y : A} → Some x ≡ Some y → x ≡ y
some_is e = cc

pub picked : {A : Type 0} (b : Bool) (x y : A) → cond b (Some x) None ≡ Some y → (b ≡ true) × (x ≡ y)
picked true x y e = (refl, cc)
picked false x y e = cc

marks : List Mark
marks = Compute ∷ Output ∷ Where ∷ End ∷ If ∷ Then ∷ Else ∷ Open ∷ Close ∷ Equals ∷ Semicolon ∷ []

at_code : (m : Mark) → get_or marks (code m) Compute ≡ m
unfolding marks
at_code Compute = refl
at_code Output = refl
at_code Where = refl
at_code End = refl
at_code If = refl
at_code Then = refl
at_code Else = refl
at_code Open = refl
at_code Close = refl
at_code Equals = refl
at_code Semicolon = refl

pub is_true : (k : Mark) (w : Token) → is k w ≡ true → w ≡ word.Mark k
is_true k (word.Atom a) e = cc
is_true k (word.Infix op) e = cc
is_true k word.First e = cc
is_true k word.Next e = cc
is_true k word.Not e = cc
is_true k (word.Mark m) e = ap word.Mark (sym (at_code m) ∙ ap (λ i. get_or marks i Compute) (sym (eqb-true (code k) (code m) e)) ∙ at_code k)

pub only-some : {A : Type 0} (k : Mark) (w : Token) (x s : A) → only k w x ≡ Some s → (w ≡ word.Mark k) × (x ≡ s)
only-some k w x s e = let p = picked (is k w) x s e in (is_true k w p.0, p.1)

pub record Taken (n have : ℕ) (w : Token) (op : Infix) : Type 0 where
  pub word_is : w ≡ word.Infix op
  pub low : n ≤ (levels op).own
  pub high : (levels op).left ≤ have

pub taken : (n have : ℕ) (w : Token) (op : Infix) → takes n have w ≡ Some op → Taken n have w op
taken n have (word.Atom a) op e = cc
taken n have (word.Infix o) op e =
    let p = picked (leb n (levels o).own && leb (levels o).left have) o op e in
    let b = and_parts (leb n (levels o).own) (leb (levels o).left have) p.0 in
    subst (Taken n have (word.Infix o)) p.1 (record { word_is = refl; low = leb-true _ _ b.0; high = leb-true _ _ b.1 })
taken n have word.First op e = cc
taken n have word.Next op e = cc
taken n have word.Not op e = cc
taken n have (word.Mark m) op e = cc

-- a tree fits whatever its own level allows
pub refit : (m n : ℕ) (t : Tree) → n ≤ level_of t → Fits m t → Fits n t
refit m n (leaf a) h f = h
refit m n (bracket t) h f = (h, f.1)
refit m n (prefix u t) h f = (h, f.1)
refit m n (infix' op l r) h f = (h, f.1, f.2)
refit m n (choice c a b) h f = (h, f.1, f.2, f.3)

pub is-other : (k m : Mark) → (m ≡ k → ⊥) → is k (word.Mark m) ≡ false
is-other k m h = ne_eqb (code k) (code m) (λ e. h (sym (at_code m) ∙ ap (λ i. get_or marks i Compute) (sym e) ∙ at_code k))

pub is-no-mark : (k : Mark) (w : Token) → ((m : Mark) → w ≡ word.Mark m → ⊥) → is k w ≡ false
is-no-mark k (word.Atom a) h = refl
is-no-mark k (word.Infix op) h = refl
is-no-mark k word.First h = refl
is-no-mark k word.Next h = refl
is-no-mark k word.Not h = refl
is-no-mark k (word.Mark m) h = absurd (h m refl)

pub not-head : (w : Token) → ((a : Atom) → w ≡ word.Atom a → ⊥) → (es : List Equation) → begin_equation es w ≡ None
not-head (word.Atom a) h es = absurd (h a refl)
not-head (word.Infix op) h es = refl
not-head word.First h es = refl
not-head word.Next h es = refl
not-head word.Not h es = refl
not-head (word.Mark m) h es = refl

pub no-head : (es : List Equation) (a : Atom) → nameable a ≡ false → begin_equation es (word.Atom a) ≡ None
no-head es (atom.Name n) h = cc
no-head es (atom.Channel k) h = cc
no-head es (atom.Literal v) h = refl
no-head es (atom.Truth b) h = refl
