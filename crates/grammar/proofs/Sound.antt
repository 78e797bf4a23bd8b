-- What the machine has read so far begins a text of the grammar. Assumes nothing.
use Rattle.std.proofs.Common.{◌≡◌, ℕ, ◌≤◌, true, leb, List, [], ◌∷◌, ◌++◌, Some, None, Option, sym, refl, ap, ◌∙◌, subst, append_assoc, append-nil, arith}
use Rattle.std.proofs.lemmas.Bool.{leb-true}
use Rattle.lexer.specs.declared.token.Atom.TheVariants as atom
use Rattle.lexer.specs.declared.token.Infix.{Infix}
use Rattle.lexer.specs.declared.token.Infix.TheVariants.{Fby, Asa, Or, And, Eq, Ne, Lt, Le, Gt, Ge, Add, Sub, Mul, Div}
use Rattle.lexer.specs.declared.token.Prefix.{Prefix}
use Rattle.lexer.specs.declared.token.Prefix.TheVariants.{Negate, First, Next, Not}
use Rattle.lexer.specs.declared.token.Mark.{Mark}
use Rattle.lexer.specs.declared.token.Mark.TheVariants.{Compute, Output, Where, End, If, Then, Else, Open, Close, Equals, Semicolon}
use Rattle.lexer.specs.declared.token.Token.{Token}
use Rattle.lexer.specs.declared.token.Token.TheVariants as word
use Rattle.grammar.specs.Grammar.{levels, prefix_level, choice_level, Tree, leaf, bracket, prefix, infix', choice, level_of, Fits, symbol, words}
use Rattle.grammar.specs.Machine.{Frame, group, operand, right, test, branch, other, Spot, due, read, takes, go_on, is, close, minus, begin_prefix, begin_mark, begin, advance}
use Rattle.grammar.proofs.Parts.{some_is, picked, only-some, taken, refit}

-- An expression of level n in the frames makes a whole expression of level 1.
abbrev pub Placed : List Frame → ℕ → Type 0
Placed [] n = n ≡ 1
Placed (group m ∷ fs) n = (n ≡ 1) × (m ≤ 11) × Placed fs m
Placed (operand m u ∷ fs) n = (n ≡ prefix_level u) × (m ≤ prefix_level u) × Placed fs m
Placed (right m op l ∷ fs) n = (n ≡ (levels op).right) × (m ≤ (levels op).own) × Fits (levels op).left l × Placed fs m
Placed (test m ∷ fs) n = (n ≡ choice_level) × (m ≤ choice_level) × Placed fs m
Placed (branch m c ∷ fs) n = (n ≡ choice_level) × (m ≤ choice_level) × Fits choice_level c × Placed fs m
Placed (other m c a ∷ fs) n = (n ≡ choice_level) × (m ≤ choice_level) × Fits choice_level c × Fits choice_level a × Placed fs m

-- the words that the frames stand for
abbrev pub so_far : List Frame → List Token
so_far [] = []
so_far (group m ∷ fs) = so_far fs ++ word.Mark Open ∷ []
so_far (operand m u ∷ fs) = so_far fs ++ symbol u ∷ []
so_far (right m op l ∷ fs) = so_far fs ++ (words l ++ word.Infix op ∷ [])
so_far (test m ∷ fs) = so_far fs ++ word.Mark If ∷ []
so_far (branch m c ∷ fs) = so_far fs ++ word.Mark If ∷ (words c ++ word.Mark Then ∷ [])
so_far (other m c a ∷ fs) = so_far fs ++ word.Mark If ∷ (words c ++ word.Mark Then ∷ (words a ++ word.Mark Else ∷ []))

abbrev pub spot-words : Spot → List Token
spot-words (due fs n) = so_far fs
spot-words (read fs n t) = so_far fs ++ words t

abbrev pub Good : Spot → Type 0
Good (due fs n) = Placed fs n
Good (read fs n t) = Placed fs n × Fits n t

pub record Stepped (before : List Token) (w : Token) (s : Spot) : Type 0 where
  pub good : Good s
  pub more : spot-words s ≡ before ++ w ∷ []

-- the frames go on with an operator, or else with what the closing says
goes : (n : ℕ) (w : Token) (fs : List Frame) (t : Tree) (no_more : Option Spot) (s : Spot) (o : Option Infix) → takes n (level_of t) w ≡ o → go_on o fs n t no_more ≡ Some s → Placed fs n → Fits n t → (no_more ≡ Some s → Stepped (so_far fs ++ words t) w s) → Stepped (so_far fs ++ words t) w s
goes n w fs t no_more s None is e p f instead = instead e
goes n w fs t no_more s (Some op) is e p f instead =
    let h = taken n (level_of t) w op is in
    subst (Stepped (so_far fs ++ words t) w) (some_is e) (record {
      good = (refl, h.low, refit n (levels op).left t h.high f, p);
      more = sym (append_assoc (so_far fs) (words t) (word.Infix op ∷ [])) ∙ ap (λ v. (so_far fs ++ words t) ++ v ∷ []) (sym h.word_is);
    })

moved : {a b : List Token} {w : Token} {s : Spot} → a ≡ b → Stepped a w s → Stepped b w s
moved {w} {s} e h = subst (λ l. Stepped l w s) e h

closed : (fs : List Frame) (n : ℕ) (t : Tree) (w : Token) (s : Spot) → close fs t w ≡ Some s → Placed fs n → Fits n t → Stepped (so_far fs ++ words t) w s
closed [] n t w s e p f = cc
closed (group m ∷ fs) n t w s e p f =
    let o = only-some Close w (read fs m (bracket t)) s e in
    subst (Stepped _ w) o.1 (record {
      good = (p.2, (p.1, subst (λ k. Fits k t) p.0 f));
      more = sym (append_assoc (so_far fs ++ word.Mark Open ∷ []) (words t) (w ∷ []) ∙ append_assoc (so_far fs) (word.Mark Open ∷ []) (words t ++ w ∷ []) ∙ ap (λ v. so_far fs ++ word.Mark Open ∷ (words t ++ v ∷ [])) o.0);
    })
closed (operand m u ∷ fs) n t w s e p f =
    let g : Fits m (prefix u t) = (p.1, subst (λ k. Fits k t) p.0 f) in
    moved (sym (append_assoc (so_far fs) (symbol u ∷ []) (words t))) (goes m w fs (prefix u t) (close fs (prefix u t) w) s (takes m (prefix_level u) w) refl e p.2 g (λ e'. closed fs m (prefix u t) w s e' p.2 g))
closed (right m op l ∷ fs) n t w s e p f =
    let g : Fits m (infix' op l t) = (p.1, p.2, subst (λ k. Fits k t) p.0 f) in
    moved (simp append_assoc) (goes m w fs (infix' op l t) (close fs (infix' op l t) w) s (takes m (levels op).own w) refl e p.3 g (λ e'. closed fs m (infix' op l t) w s e' p.3 g))
closed (test m ∷ fs) n t w s e p f =
    let o = only-some Then w (due (branch m t ∷ fs) choice_level) s e in
    subst (Stepped _ w) o.1 (record {
      good = (refl, p.1, subst (λ k. Fits k t) p.0 f, p.2);
      more = ap (λ v. so_far fs ++ word.Mark If ∷ (words t ++ v ∷ [])) (sym o.0) ∙ simp append_assoc;
    })
closed (branch m c ∷ fs) n t w s e p f =
    let o = only-some Else w (due (other m c t ∷ fs) choice_level) s e in
    subst (Stepped _ w) o.1 (record {
      good = (refl, p.1, p.2, subst (λ k. Fits k t) p.0 f, p.3);
      more = ap (λ v. so_far fs ++ word.Mark If ∷ (words c ++ word.Mark Then ∷ (words t ++ v ∷ []))) (sym o.0) ∙ simp append_assoc;
    })
closed (other m c a ∷ fs) n t w s e p f =
    let g : Fits m (choice c a t) = (p.1, p.2, p.3, subst (λ k. Fits k t) p.0 f) in
    moved (simp append_assoc) (goes m w fs (choice c a t) (close fs (choice c a t) w) s (takes m choice_level w) refl e p.4 g (λ e'. closed fs m (choice c a t) w s e' p.4 g))

prefix-low : (u : Prefix) → prefix_level u ≤ 11
prefix-low Negate = omega arith
prefix-low First = omega arith
prefix-low Next = omega arith
prefix-low Not = omega arith

pub right-low : (op : Infix) → (levels op).right ≤ 11
right-low Fby = omega arith
right-low Asa = omega arith
right-low Or = omega arith
right-low And = omega arith
right-low Eq = omega arith
right-low Ne = omega arith
right-low Lt = omega arith
right-low Le = omega arith
right-low Gt = omega arith
right-low Ge = omega arith
right-low Add = omega arith
right-low Sub = omega arith
right-low Mul = omega arith
right-low Div = omega arith

-- an expression that is due has one of the levels, so that an atom fits
pub due-level : (fs : List Frame) (n : ℕ) → Placed fs n → n ≤ 11
due-level [] n p = omega arith
due-level (group m ∷ fs) n p = omega arith
due-level (operand m u ∷ fs) n p = omega (arith, prefix-low u, p.0)
due-level (right m op l ∷ fs) n p = omega (arith, right-low op, p.0)
due-level (test m ∷ fs) n p = omega (arith, p.0)
due-level (branch m c ∷ fs) n p = omega (arith, p.0)
due-level (other m c a ∷ fs) n p = omega (arith, p.0)

pub minus_is : (op : Infix) (u : Prefix) → minus op ≡ Some u → word.Infix op ≡ symbol u
minus_is Fby u e = cc
minus_is Asa u e = cc
minus_is Or u e = cc
minus_is And u e = cc
minus_is Eq u e = cc
minus_is Ne u e = cc
minus_is Lt u e = cc
minus_is Le u e = cc
minus_is Gt u e = cc
minus_is Ge u e = cc
minus_is Add u e = cc
minus_is Sub u e = cc
minus_is Mul u e = cc
minus_is Div u e = cc

prefixed : (fs : List Frame) (n : ℕ) (w : Token) (s : Spot) (o : Option Prefix) → ((u : Prefix) → o ≡ Some u → w ≡ symbol u) → begin_prefix fs n o ≡ Some s → Placed fs n → Stepped (so_far fs) w s
prefixed fs n w s None same e p = cc
prefixed fs n w s (Some u) same e p =
    let q = picked (leb n (prefix_level u)) (due (operand n u ∷ fs) (prefix_level u)) s e in
    subst (Stepped (so_far fs) w) q.1 (record {
      good = (refl, leb-true _ _ q.0, p);
      more = ap (λ v. so_far fs ++ v ∷ []) (sym (same u refl));
    })

marked : (fs : List Frame) (n : ℕ) (m : Mark) (s : Spot) → begin_mark fs n m ≡ Some s → Placed fs n → Stepped (so_far fs) (word.Mark m) s
marked fs n Compute s e p = cc
marked fs n Output s e p = cc
marked fs n Where s e p = cc
marked fs n End s e p = cc
marked fs n If s e p =
    let q = picked (leb n choice_level) (due (test n ∷ fs) choice_level) s e in
    subst (Stepped (so_far fs) (word.Mark If)) q.1 (record { good = (refl, leb-true _ _ q.0, p); more = refl })
marked fs n Then s e p = cc
marked fs n Else s e p = cc
marked fs n Open s e p = subst (Stepped (so_far fs) (word.Mark Open)) (some_is e) (record { good = (refl, due-level fs n p, p); more = refl })
marked fs n Close s e p = cc
marked fs n Equals s e p = cc
marked fs n Semicolon s e p = cc

begun : (fs : List Frame) (n : ℕ) (w : Token) (s : Spot) → begin fs n w ≡ Some s → Placed fs n → Stepped (so_far fs) w s
begun fs n (word.Atom a) s e p = subst (Stepped (so_far fs) (word.Atom a)) (some_is e) (record { good = (p, due-level fs n p); more = refl })
begun fs n (word.Infix op) s e p = prefixed fs n (word.Infix op) s (minus op) (minus_is op) e p
begun fs n word.First s e p = prefixed fs n word.First s (Some First) (λ u i. cc) e p
begun fs n word.Next s e p = prefixed fs n word.Next s (Some Next) (λ u i. cc) e p
begun fs n word.Not s e p = prefixed fs n word.Not s (Some Not) (λ u i. cc) e p
begun fs n (word.Mark m) s e p = marked fs n m s e p

pub advanced : (a : Spot) (w : Token) (s : Spot) → advance a w ≡ Some s → Good a → Stepped (spot-words a) w s
advanced (due fs n) w s e g = begun fs n w s e g
advanced (read fs n t) w s e g = goes n w fs t (close fs t w) s (takes n (level_of t) w) refl e g.0 g.1 (λ e'. closed fs n t w s e' g.0 g.1)

-- The frames with t and, where more is due, true.
blank : Tree
blank = leaf (atom.Truth true)

abbrev fill : List Frame → Tree → Tree
fill [] t = t
fill (group m ∷ fs) t = fill fs (bracket t)
fill (operand m u ∷ fs) t = fill fs (prefix u t)
fill (right m op l ∷ fs) t = fill fs (infix' op l t)
fill (test m ∷ fs) t = fill fs (choice t blank blank)
fill (branch m c ∷ fs) t = fill fs (choice c t blank)
fill (other m c a ∷ fs) t = fill fs (choice c a t)

abbrev to-come : List Frame → List Token
to-come [] = []
to-come (group m ∷ fs) = word.Mark Close ∷ to-come fs
to-come (operand m u ∷ fs) = to-come fs
to-come (right m op l ∷ fs) = to-come fs
to-come (test m ∷ fs) = word.Mark Then ∷ (words blank ++ word.Mark Else ∷ (words blank ++ to-come fs))
to-come (branch m c ∷ fs) = word.Mark Else ∷ (words blank ++ to-come fs)
to-come (other m c a ∷ fs) = to-come fs

fill-words : (fs : List Frame) (t : Tree) → words (fill fs t) ≡ so_far fs ++ (words t ++ to-come fs)
fill-words [] t = sym (append-nil (words t))
fill-words (group m ∷ fs) t = fill-words fs (bracket t) ∙ simp append_assoc
fill-words (operand m u ∷ fs) t = fill-words fs (prefix u t) ∙ simp append_assoc
fill-words (right m op l ∷ fs) t = fill-words fs (infix' op l t) ∙ simp append_assoc
fill-words (test m ∷ fs) t = fill-words fs (choice t blank blank) ∙ simp append_assoc
fill-words (branch m c ∷ fs) t = fill-words fs (choice c t blank) ∙ simp append_assoc
fill-words (other m c a ∷ fs) t = fill-words fs (choice c a t) ∙ simp append_assoc

blank-fits : (n : ℕ) → n ≤ 11 → Fits n blank
unfolding blank
blank-fits n h = h

fill-fits : (fs : List Frame) (n : ℕ) (t : Tree) → Placed fs n → Fits n t → Fits 1 (fill fs t)
fill-fits [] n t p f = subst (λ k. Fits k t) p f
fill-fits (group m ∷ fs) n t p f = fill-fits fs m (bracket t) p.2 (p.1, subst (λ k. Fits k t) p.0 f)
fill-fits (operand m u ∷ fs) n t p f = fill-fits fs m (prefix u t) p.2 (p.1, subst (λ k. Fits k t) p.0 f)
fill-fits (right m op l ∷ fs) n t p f = fill-fits fs m (infix' op l t) p.3 (p.1, p.2, subst (λ k. Fits k t) p.0 f)
fill-fits (test m ∷ fs) n t p f = fill-fits fs m (choice t blank blank) p.2 (p.1, subst (λ k. Fits k t) p.0 f, blank-fits 3 (omega arith), blank-fits 3 (omega arith))
fill-fits (branch m c ∷ fs) n t p f = fill-fits fs m (choice c t blank) p.3 (p.1, p.2, subst (λ k. Fits k t) p.0 f, blank-fits 3 (omega arith))
fill-fits (other m c a ∷ fs) n t p f = fill-fits fs m (choice c a t) p.4 (p.1, p.2, p.3, subst (λ k. Fits k t) p.0 f)

-- Every good spot is inside some expression of level 1.
pub record Inside (ws : List Token) : Type 0 where
  pub tree : Tree
  pub rest : List Token
  pub fits : Fits 1 tree
  pub begins : words tree ≡ ws ++ rest

pub completed : (s : Spot) → Good s → Inside (spot-words s)
completed (due fs n) g = record {
  tree = fill fs blank;
  rest = words blank ++ to-come fs;
  fits = fill-fits fs n blank g (blank-fits n (due-level fs n g));
  begins = fill-words fs blank;
}
completed (read fs n t) g = record {
  tree = fill fs t;
  rest = to-come fs;
  fits = fill-fits fs n t g.0 g.1;
  begins = fill-words fs t ∙ sym (append_assoc (so_far fs) (words t) (to-come fs));
}
