-- The machine reads every text of the grammar to its end, and makes its trees. Assumes nothing.
use Rattle.std.proofs.Common.{◌≡◌, ℕ, ◌+◌, ◌<◌, ◌≤◌, ◌⊎◌, List, [], ◌∷◌, ◌++◌, Some, None, Option, sym, refl, ap, ◌∙◌, inl, inr, append_assoc, le_trans, arith}
use Rattle.std.proofs.lemmas.Bool.{le-leb, lt-leb, and_from, and_left, cond-true, cond-false}
use Rattle.lexer.specs.declared.token.Atom.{Atom}
use Rattle.lexer.specs.declared.token.Atom.TheVariants as atom
use Rattle.lexer.specs.declared.token.Infix.{Infix}
use Rattle.lexer.specs.declared.token.Infix.TheVariants.{Fby, Asa, Or, And, Eq, Ne, Lt, Le, Gt, Ge, Add, Sub, Mul, Div}
use Rattle.lexer.specs.declared.token.Prefix.{Prefix}
use Rattle.lexer.specs.declared.token.Prefix.TheVariants.{Negate, First, Next, Not}
use Rattle.lexer.specs.declared.token.Mark.{Mark}
use Rattle.lexer.specs.declared.token.Mark.TheVariants.{End, If, Then, Else, Close, Equals, Semicolon}
use Rattle.lexer.specs.declared.token.Token.{Token}
use Rattle.lexer.specs.declared.token.Token.TheVariants as word
use Rattle.grammar.specs.Grammar.{levels, prefix_level, choice_level, Tree, leaf, bracket, prefix, infix', choice, level_of, Fits, symbol, words, Equation, body_words, text_words, Nameable, Formed, AllFormed, Viable}
use Rattle.grammar.specs.Machine.{Frame, group, operand, right, test, branch, other, Spot, due, read, and_then, takes, go_on, close, begin, advance, State, name, equals, inside, ended, whole, whole_at, end_equation, enter, step, run, start, Stops}
use Rattle.grammar.proofs.Parts.{refit}

two-levels : (u : Prefix) → (prefix_level u ≡ 10) ⊎ (prefix_level u ≡ 6)
two-levels Negate = inl refl
two-levels First = inl refl
two-levels Next = inl refl
two-levels Not = inr refl

-- What the levels of an operator keep: a tree that may stand on the left of it leaves it no place in an operand at its right end.
record Ordered (o l r : ℕ) : Type 0 where
  left_up : o ≤ l
  left_two : 2 ≤ l
  right_up : o ≤ r
  right_more : (r ≡ o + 1) ⊎ ((o ≡ 1) × (r ≡ 1))
  no_prefix : (n : ℕ) → (n ≡ 10) ⊎ (n ≡ 6) → l ≤ n → o < n
  no_choice : l ≤ 3 → o < 3

ordered : (op : Infix) → Ordered (levels op).own (levels op).left (levels op).right
ordered Fby = record { left_up = omega arith; left_two = omega arith; right_up = omega arith; right_more = inr (refl, refl); no_prefix = λ n s h. omega arith; no_choice = λ h. omega arith }
ordered Asa = record { left_up = omega arith; left_two = omega arith; right_up = omega arith; right_more = inl refl; no_prefix = λ n s h. omega arith; no_choice = λ h. omega arith }
ordered Or = record { left_up = omega arith; left_two = omega arith; right_up = omega arith; right_more = inl refl; no_prefix = λ n s h. omega arith; no_choice = λ h. omega arith }
ordered And = record { left_up = omega arith; left_two = omega arith; right_up = omega arith; right_more = inl refl; no_prefix = λ n s h. omega arith; no_choice = λ h. omega arith }
ordered Eq = record { left_up = omega arith; left_two = omega arith; right_up = omega arith; right_more = inl refl; no_prefix = λ n s h. omega arith; no_choice = λ h. omega arith }
ordered Ne = record { left_up = omega arith; left_two = omega arith; right_up = omega arith; right_more = inl refl; no_prefix = λ n s h. omega arith; no_choice = λ h. omega arith }
ordered Lt = record { left_up = omega arith; left_two = omega arith; right_up = omega arith; right_more = inl refl; no_prefix = λ n s h. omega arith; no_choice = λ h. omega arith }
ordered Le = record { left_up = omega arith; left_two = omega arith; right_up = omega arith; right_more = inl refl; no_prefix = λ n s h. omega arith; no_choice = λ h. omega arith }
ordered Gt = record { left_up = omega arith; left_two = omega arith; right_up = omega arith; right_more = inl refl; no_prefix = λ n s h. omega arith; no_choice = λ h. omega arith }
ordered Ge = record { left_up = omega arith; left_two = omega arith; right_up = omega arith; right_more = inl refl; no_prefix = λ n s h. omega arith; no_choice = λ h. omega arith }
ordered Add = record { left_up = omega arith; left_two = omega arith; right_up = omega arith; right_more = inl refl; no_prefix = λ n s h. omega arith; no_choice = λ h. omega arith }
ordered Sub = record { left_up = omega arith; left_two = omega arith; right_up = omega arith; right_more = inl refl; no_prefix = λ n s h. omega arith; no_choice = λ h. omega arith }
ordered Mul = record { left_up = omega arith; left_two = omega arith; right_up = omega arith; right_more = inl refl; no_prefix = λ n s h. omega arith; no_choice = λ h. omega arith }
ordered Div = record { left_up = omega arith; left_two = omega arith; right_up = omega arith; right_more = inl refl; no_prefix = λ n s h. omega arith; no_choice = λ h. omega arith }

-- a tree that may stand on the left of op has no operand at its right end that op could go into
after-left : (op at : Infix) → (levels op).left ≤ (levels at).own → (levels op).own < (levels at).right
after-left op at h =
    let a = ordered op in
    let b = ordered at in
    elim b.right_more [ inl more ↦ omega (arith, a.left_up) | inr one ↦ absurd (omega (arith, a.left_two, one.0)) ]

pub fits-level : (n : ℕ) (t : Tree) → Fits n t → n ≤ level_of t
fits-level n (leaf a) f = f
fits-level n (bracket t) f = f.0
fits-level n (prefix u t) f = f.0
fits-level n (infix' op l r) f = f.0
fits-level n (choice c a b) f = f.0

pub mark-stops : (t : Tree) (m : Mark) → Stops t (word.Mark m)
mark-stops (leaf a) m = tt
mark-stops (bracket t) m = tt
mark-stops (prefix u t) m = (refl, mark-stops t m)
mark-stops (infix' op l r) m = (refl, mark-stops r m)
mark-stops (choice c a b) m = (refl, mark-stops b m)

too-low : (op : Infix) (n have : ℕ) → (levels op).own < n → takes n have (word.Infix op) ≡ None
too-low op n have h = cond-false _ _ _ (and_left _ _ (lt-leb n (levels op).own h))

lower-stops : (op : Infix) (t : Tree) (n : ℕ) → (levels op).own < n → Fits n t → Stops t (word.Infix op)
lower-stops op (leaf a) n h f = tt
lower-stops op (bracket t) n h f = tt
lower-stops op (prefix u t) n h f =
    let k : (levels op).own < prefix_level u = omega (arith, f.0) in
    (too-low op _ _ k, lower-stops op t (prefix_level u) k f.1)
lower-stops op (infix' at l r) n h f =
    let k : (levels op).own < (levels at).right = omega (arith, f.0, (ordered at).right_up) in
    (too-low op _ _ k, lower-stops op r (levels at).right k f.2)
lower-stops op (choice c a b) n h f =
    let k : (levels op).own < choice_level = omega (arith, f.0) in
    (too-low op _ _ k, lower-stops op b choice_level k f.3)

pub left-stops : (op : Infix) (t : Tree) → Fits (levels op).left t → Stops t (word.Infix op)
left-stops op (leaf a) f = tt
left-stops op (bracket t) f = tt
left-stops op (prefix u t) f =
    let k : (levels op).own < prefix_level u = (ordered op).no_prefix (prefix_level u) (two-levels u) f.0 in
    (too-low op _ _ k, lower-stops op t (prefix_level u) k f.1)
left-stops op (infix' at l r) f =
    let k : (levels op).own < (levels at).right = after-left op at f.0 in
    (too-low op _ _ k, lower-stops op r (levels at).right k f.2)
left-stops op (choice c a b) f =
    let k : (levels op).own < choice_level = (ordered op).no_choice f.0 in
    (too-low op _ _ k, lower-stops op b choice_level k f.3)

pub takes-op : (n : ℕ) (l : Tree) (op : Infix) → n ≤ (levels op).own → Fits (levels op).left l → takes n (level_of l) (word.Infix op) ≡ Some op
takes-op n l op h f = cond-true _ _ _ (and_from _ _ (le-leb _ _ h) (le-leb _ _ (fits-level _ l f)))

pub begins : (fs : List Frame) (n : ℕ) (u : Prefix) → n ≤ prefix_level u → begin fs n (symbol u) ≡ Some (due (operand n u ∷ fs) (prefix_level u))
begins fs n Negate h = cond-true _ _ _ (le-leb _ _ h)
begins fs n First h = cond-true _ _ _ (le-leb _ _ h)
begins fs n Next h = cond-true _ _ _ (le-leb _ _ h)
begins fs n Not h = cond-true _ _ _ (le-leb _ _ h)

module _ (es : List Equation) (a : Atom) where
  abbrev from : Spot → List Token → Option State
  from s ws = run (inside es a s) ws

  one : (s x : Spot) (w : Token) (ws : List Token) → advance s w ≡ Some x → from s (w ∷ ws) ≡ from x ws
  one s x w ws e = ap (λ o. and_then (enter es a o (end_equation es a (whole_at s) w)) (λ y. run y ws)) e

  -- a frame that its last expression completes, where the next word does not go into that expression
  collapse : (f : Frame) (fs : List Frame) (n m : ℕ) (t r : Tree) (w : Token) (ws : List Token) → close (f ∷ fs) t w ≡ advance (read fs n r) w → whole (f ∷ fs) t ≡ whole fs r → takes m (level_of t) w ≡ None → from (read (f ∷ fs) m t) (w ∷ ws) ≡ from (read fs n r) (w ∷ ws)
  collapse f fs n m t r w ws c o e =
      ap (λ k. and_then (enter es a (go_on k (f ∷ fs) m t (close (f ∷ fs) t w)) (end_equation es a (whole (f ∷ fs) t) w)) (λ y. run y ws)) e
      ∙ ap (λ k. and_then (enter es a k (end_equation es a (whole (f ∷ fs) t) w)) (λ y. run y ws)) c
      ∙ ap (λ k. and_then (enter es a (advance (read fs n r) w) (end_equation es a k w)) (λ y. run y ws)) o

  infix-left' : (op : Infix) (l : Tree) (fs : List Frame) (n : ℕ) (ws : List Token) → n ≤ (levels op).own → Fits (levels op).left l → from (read fs n l) (word.Infix op ∷ ws) ≡ from (due (right n op l ∷ fs) (levels op).right) ws
  infix-left' op l fs n ws h f = one (read fs n l) (due (right n op l ∷ fs) (levels op).right) (word.Infix op) ws (ap (λ o. go_on o fs n l (close fs l (word.Infix op))) (takes-op n l op h f))

  pub along : (t : Tree) (fs : List Frame) (n : ℕ) (w : Token) (ws : List Token) → Fits n t → Stops t w → from (due fs n) (words t ++ w ∷ ws) ≡ from (read fs n t) (w ∷ ws)
  along (leaf x) fs n w ws f s = refl
  along (bracket t) fs n w ws f s =
      ap (from (due (group n ∷ fs) 1)) (append_assoc (words t) (word.Mark Close ∷ []) (w ∷ ws))
      ∙ along t (group n ∷ fs) 1 (word.Mark Close) (w ∷ ws) f.1 (mark-stops t Close)
  along (prefix u t) fs n w ws f s =
      one (due fs n) (due (operand n u ∷ fs) (prefix_level u)) (symbol u) (words t ++ w ∷ ws) (begins fs n u f.0)
      ∙ along t (operand n u ∷ fs) (prefix_level u) w ws f.1 s.1
      ∙ collapse (operand n u) fs n (prefix_level u) t (prefix u t) w ws refl refl s.0
  along (infix' op l r) fs n w ws f s =
      ap (from (due fs n)) (append_assoc (words l) (word.Infix op ∷ words r) (w ∷ ws))
      ∙ along l fs n (word.Infix op) (words r ++ w ∷ ws) (refit (levels op).left n l (le_trans f.0 (le_trans (ordered op).left_up (fits-level _ l f.1))) f.1) (left-stops op l f.1)
      ∙ one (read fs n l) (due (right n op l ∷ fs) (levels op).right) (word.Infix op) (words r ++ w ∷ ws) (ap (λ o. go_on o fs n l (close fs l (word.Infix op))) (takes-op n l op f.0 f.1))
      ∙ along r (right n op l ∷ fs) (levels op).right w ws f.2 s.1
      ∙ collapse (right n op l) fs n (levels op).right r (infix' op l r) w ws refl refl s.0
  along (choice c t b) fs n w ws f s =
      let m : (words c ++ word.Mark Then ∷ (words t ++ word.Mark Else ∷ words b)) ++ w ∷ ws ≡ words c ++ word.Mark Then ∷ (words t ++ word.Mark Else ∷ (words b ++ w ∷ ws)) = simp append_assoc in
      one (due fs n) (due (test n ∷ fs) choice_level) (word.Mark If) ((words c ++ word.Mark Then ∷ (words t ++ word.Mark Else ∷ words b)) ++ w ∷ ws) (cond-true _ _ _ (le-leb _ _ f.0))
      ∙ ap (from (due (test n ∷ fs) choice_level)) m
      ∙ along c (test n ∷ fs) choice_level (word.Mark Then) (words t ++ word.Mark Else ∷ (words b ++ w ∷ ws)) f.1 (mark-stops c Then)
      ∙ along t (branch n c ∷ fs) choice_level (word.Mark Else) (words b ++ w ∷ ws) f.2 (mark-stops t Else)
      ∙ along b (other n c t ∷ fs) choice_level w ws f.3 s.1
      ∙ collapse (other n c t) fs n choice_level b (choice c t b) w ws refl refl s.0

pub left-fits : (op : Infix) (n : ℕ) (l : Tree) → n ≤ (levels op).own → Fits (levels op).left l → Fits n l
left-fits op n l h f = refit (levels op).left n l (le_trans h (le_trans (ordered op).left_up (fits-level _ l f))) f

-- the left operand and the operator
pub infix-left : (es : List Equation) (a : Atom) (op : Infix) (l : Tree) (fs : List Frame) (n : ℕ) (ws : List Token) → n ≤ (levels op).own → Fits (levels op).left l → run (inside es a (due fs n)) (words l ++ word.Infix op ∷ ws) ≡ run (inside es a (due (right n op l ∷ fs) (levels op).right)) ws
infix-left es a op l fs n ws h f = along es a l fs n (word.Infix op) ws (left-fits op n l h f) (left-stops op l f) ∙ infix-left' es a op l fs n ws h f

starts : (es : List Equation) (a : Atom) (ws : List Token) → Nameable a → run (name es) (word.Atom a ∷ ws) ≡ run (equals es a) ws
starts es (atom.Name n) ws h = refl
starts es (atom.Channel k) ws h = refl
starts es (atom.Literal v) ws h = absurd h
starts es (atom.Truth b) ws h = absurd h

body : (done : List Equation) (e : Equation) (es : List Equation) → Formed e → AllFormed es → run (name done) (body_words e es) ≡ Some (ended (done ++ e ∷ es))
body done e [] f all =
    starts done e.head (word.Mark Equals ∷ (words e.tree ++ word.Mark End ∷ [])) f.0
    ∙ along done e.head e.tree [] 1 (word.Mark End) [] f.1 (mark-stops e.tree End)
body done e (g ∷ es) f all =
    starts done e.head (word.Mark Equals ∷ (words e.tree ++ word.Mark Semicolon ∷ body_words g es)) f.0
    ∙ along done e.head e.tree [] 1 (word.Mark Semicolon) (body_words g es) f.1 (mark-stops e.tree Semicolon)
    ∙ body (done ++ e ∷ []) g es all.0 all.1
    ∙ ap (λ l. Some (ended l)) (append_assoc done (e ∷ []) (g ∷ es))

-- the machine accepts each text of the grammar, with its own trees
pub accepts : (e : Equation) (es : List Equation) → Formed e → AllFormed es → run start (text_words e es) ≡ Some (ended (e ∷ es))
accepts e es f all = body [] e es f all

pub run-append : (ws rest : List Token) (s : State) → run s (ws ++ rest) ≡ and_then (run s ws) (λ x. run x rest)
run-append [] rest s = refl
run-append (w ∷ ws) rest s = go (step s w) (run-append ws rest)
  where
    go : (o : Option State) → ((x : State) → run x (ws ++ rest) ≡ and_then (run x ws) (λ y. run y rest)) → and_then o (λ x. run x (ws ++ rest)) ≡ and_then (and_then o (λ x. run x ws)) (λ x. run x rest)
    go None more = refl
    go (Some x) more = more x

-- where the machine has no state, no text of the grammar begins so
pub not-viable : (ws : List Token) → run start ws ≡ None → Viable ws → ⊥
not-viable ws e v =
    let t = v.1 in
    let clash = sym (ap (λ o. and_then o (λ x. run x v.0)) e) ∙ sym (run-append ws v.0 start) ∙ ap (run start) t.written ∙ accepts t.first t.others t.formed.0 t.formed.1 in cc
