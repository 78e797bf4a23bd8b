-- What each step of the expression reader shows. Assumes nothing.
use Rattle.std.proofs.Common.{◌≡◌, ℕ, ◌+◌, ◌-◌, ◌<◌, ◌≤◌, false, List, [], ◌∷◌, ◌++◌, Some, None, Ok, Err, Option, Result, sym, refl, ap, ◌∙◌, subst, append_assoc, arith}
use Rattle.std.proofs.lemmas.Bool.{le-leb, lt-leb, cond-true, cond-false}
use Rattle.lexer.specs.declared.token.Atom.{Atom}
use Rattle.lexer.specs.declared.token.Infix.{Infix}
use Rattle.lexer.specs.declared.token.Prefix.{Prefix}
use Rattle.lexer.specs.declared.token.Prefix.TheVariants.{Negate, First, Next, Not}
use Rattle.lexer.specs.declared.token.Mark.{Mark}
use Rattle.lexer.specs.declared.token.Mark.TheVariants.{Compute, Output, Where, End, If, Then, Else, Open, Close, Equals, Semicolon}
use Rattle.lexer.specs.declared.token.Token.{Token}
use Rattle.lexer.specs.declared.token.Token.TheVariants as word
use Rattle.grammar.specs.Grammar.{levels, prefix_level, choice_level, Tree, leaf, bracket, prefix, infix', choice, level_of, Fits, symbol, words, Equation}
use Rattle.grammar.specs.Machine.{Frame, group, operand, right, test, branch, other, Spot, due, read, and_then, takes, go_on, is, close, begin_prefix, begin, advance, State, inside, whole, whole_at, end_equation, enter, run, Stops}
use Rattle.std.specs.Prelude.{ok_or}
use Rattle.lexer.specs.declared.lexer.NotAWord.{NotAWord}
use Rattle.lexer.specs.declared.lexer.Word.{Word}
use Rattle.syntax.specs.declared.refusal.Refusal.{Refusal}
use Rattle.syntax.specs.declared.refusal.Refusal.TheVariants.{NoWord, Unexpected, TooDeep}
use Rattle.lexer.specs.Lexer.{skip, scan, a_word, not_a_word}
use Rattle.grammar.specs.Machine.{as_prefix}
use Rattle.syntax.specs.Reading.{opened_by, opened, Lies, Halt, bad, over, Missing, halted, other_word, Expression, Whole, Stuck, no_word, no_such, too_deep, Broken, Begins}
use Rattle.grammar.proofs.Parts.{refit, taken}
use Rattle.grammar.proofs.Complete.{mark-stops, along, run-append, begins, infix-left}
use Rattle.grammar.proofs.Sound.{minus_is}

-- Two words found at one place are the same, and end at the same place.
pub same_word : {w v : Token} {e g : ℕ} {found : Result (Option Word) NotAWord} → found ≡ Ok (Some (a_word w e)) → found ≡ Ok (Some (a_word v g)) → (w ≡ v) × (e ≡ g)
same_word {w} {v} {e} {g} h k = let s : a_word w e ≡ a_word v g = cc in (ap (λ (x : Word). x.token) s, ap (λ (x : Word). x.end) s)

pub halted_bad : {bs : List ℕ} {p : ℕ} {r : Refusal} → (r ≡ NoWord p) × (scan bs p ≡ Err not_a_word) → Halt bs p r
halted_bad {bs} {p} h = subst (Halt bs p) (sym h.0) (bad h.1)

-- Where an option is refused, there is nothing.
pub none_there : {A : Type 0} (o : Option A) {r s : Refusal} → Err r ≡ ok_or o s → (o ≡ None) × (r ≡ s)
none_there None e = (refl, cc)
none_there (Some a) e = (cc, cc)

pub halted_over : {bs : List ℕ} {p : ℕ} {r : Refusal} (found : Option Word) → scan bs p ≡ Ok found → Err r ≡ ok_or found (Unexpected p) → Halt bs p r
halted_over {bs} {p} found h e = let k = none_there found e in subst (Halt bs p) (sym k.1) (over (h ∙ ap (λ o. Ok o) k.0))

-- where the machine stands inside the tree's last operand, once the tree's words are read
abbrev pub tip : List Frame → ℕ → Tree → Spot
tip fs n (leaf a) = read fs n (leaf a)
tip fs n (bracket t) = read fs n (bracket t)
tip fs n (prefix u t) = tip (operand n u ∷ fs) (prefix_level u) t
tip fs n (infix' op l r) = tip (right n op l ∷ fs) (levels op).right r
tip fs n (choice c a b) = tip (other n c a ∷ fs) choice_level b

module _ (es : List Equation) (a : Atom) where
  abbrev pub from : Spot → List Token → Option State
  from s ws = run (inside es a s) ws

  one : (s x : Spot) (w : Token) (ws : List Token) → advance s w ≡ Some x → from s (w ∷ ws) ≡ from x ws
  one s x w ws e = ap (λ o. and_then (enter es a o (end_equation es a (whole_at s) w)) (λ y. run y ws)) e

  pub at-tip : (t : Tree) (fs : List Frame) (n : ℕ) → Fits n t → from (due fs n) (words t) ≡ Some (inside es a (tip fs n t))
  at-tip (leaf x) fs n f = refl
  at-tip (bracket t) fs n f = along es a t (group n ∷ fs) 1 (word.Mark Close) [] f.1 (mark-stops t Close)
  at-tip (prefix u t) fs n f =
      one (due fs n) (due (operand n u ∷ fs) (prefix_level u)) (symbol u) (words t) (begins fs n u f.0)
      ∙ at-tip t (operand n u ∷ fs) (prefix_level u) f.1
  at-tip (infix' op l r) fs n f =
      infix-left es a op l fs n (words r) f.0 f.1
      ∙ at-tip r (right n op l ∷ fs) (levels op).right f.2
  at-tip (choice c t b) fs n f =
      one (due fs n) (due (test n ∷ fs) choice_level) (word.Mark If) (words c ++ word.Mark Then ∷ (words t ++ word.Mark Else ∷ words b)) (cond-true _ _ _ (le-leb _ _ f.0))
      ∙ along es a c (test n ∷ fs) choice_level (word.Mark Then) (words t ++ word.Mark Else ∷ words b) f.1 (mark-stops c Then)
      ∙ along es a t (branch n c ∷ fs) choice_level (word.Mark Else) (words b) f.2 (mark-stops t Else)
      ∙ at-tip b (other n c t ∷ fs) choice_level f.3

abbrev pub at : ℕ → List Frame → Spot
at n fs = due fs n

abbrev pub at_in : Frame → ℕ → List Frame → Spot
at_in f n fs = due (f ∷ fs) n

module _ (bs : List ℕ) where
  pub lies-append : (ws vs : List Token) (p d q c r b : ℕ) → Lies bs p d ws q c → Lies bs q c vs r b → Lies bs p d (ws ++ vs) r b
  lies-append [] vs p d q c r b h k = subst (λ x. Lies bs x d vs r b) (sym h.0) (subst (λ x. Lies bs q x vs r b) (sym h.1) k)
  lies-append (w ∷ ws) vs p d q c r b h k = (h.0, h.1, h.2, lies-append ws vs (skip bs h.0) (opened w d) q c r b h.3 k)

  -- words that lead from one spot to another in every context
  pub record Leads (x y : List Frame → Spot) (p d q c : ℕ) : Type 0 where
    pub by : List Token
    pub lies : Lies bs p d by q c
    pub goes : (es : List Equation) (a : Atom) (fs : List Frame) → run (inside es a (x fs)) by ≡ Some (inside es a (y fs))

  along-by : {x y : List Frame → Spot} {p d q c : ℕ} (l : Leads x y p d q c) (es : List Equation) (a : Atom) (fs : List Frame) (vs : List Token) → run (inside es a (x fs)) (l.by ++ vs) ≡ run (inside es a (y fs)) vs
  along-by {x} l es a fs vs = run-append l.by vs (inside es a (x fs)) ∙ ap (λ o. and_then o (λ s. run s vs)) (l.goes es a fs)

  pub leads-then : {x y z : List Frame → Spot} {p d q c r b : ℕ} → Leads x y p d q c → Leads y z q c r b → Leads x z p d r b
  leads-then l k = record {
    by = l.by ++ k.by;
    lies = lies-append l.by k.by _ _ _ _ _ _ l.lies k.lies;
    goes = λ es a fs. along-by l es a fs k.by ∙ k.goes es a fs;
  }

  stuck-after : (f g : List Token → Option State) (ws vs : List Token) {q c : ℕ} {r : Refusal} → ((us : List Token) → f (ws ++ us) ≡ g us) → Stuck bs g vs q c r → Stuck bs f (ws ++ vs) q c r
  stuck-after f g ws vs h (no_word e) = no_word e
  stuck-after f g ws vs h (no_such {w = w} e k) = no_such e (ap f (append_assoc ws vs (w ∷ [])) ∙ h (vs ++ w ∷ []) ∙ k)
  stuck-after f g ws vs h (too_deep e k d) = too_deep e (ap f (append_assoc ws vs (word.Mark Open ∷ [])) ∙ h (vs ++ word.Mark Open ∷ []) ∙ k) d

  pub into : {x y : List Frame → Spot} {p d q c : ℕ} {r : Refusal} → Leads x y p d q c → Broken bs y q c r → Broken bs x p d r
  into {x} {y} l b = record {
    read = l.by ++ b.read;
    place = b.place;
    depth = b.depth;
    lies = lies-append l.by b.read _ _ _ _ _ _ l.lies b.lies;
    alive = λ es a fs. ((b.alive es a fs).0, along-by l es a fs b.read ∙ (b.alive es a fs).1);
    stuck = λ es a fs. stuck-after (run (inside es a (x fs))) (run (inside es a (y fs))) l.by b.read (along-by l es a fs) (b.stuck es a fs);
  }

  pub nested : (f : Frame) (n : ℕ) {p d : ℕ} {r : Refusal} → Broken bs (at n) p d r → Broken bs (at_in f n) p d r
  nested f n b = record { read = b.read; place = b.place; depth = b.depth; lies = b.lies; alive = λ es a fs. b.alive es a (f ∷ fs); stuck = λ es a fs. b.stuck es a (f ∷ fs) }

  -- at the first word
  pub no-first : {n p d : ℕ} {r : Refusal} → Halt bs p r → Broken bs (at n) p d r
  no-first {n} {p} {d} h = record { read = []; place = p; depth = d; lies = (refl, refl); alive = λ es a fs. (due fs n, refl); stuck = λ es a fs. no_word h }

  pub refused-first : {n p d e : ℕ} {w : Token} → scan bs p ≡ Ok (Some (a_word w e)) → ((fs : List Frame) → begin fs n w ≡ None) → Broken bs (at n) p d (Unexpected p)
  refused-first {n} {p} {d} {e} {w} h k = record {
    read = [];
    place = p;
    depth = d;
    lies = (refl, refl);
    alive = λ es a fs. (due fs n, refl);
    stuck = λ es a fs. no_such h (ap (λ o. and_then (enter es a o None) (λ y. run y [])) (k fs));
  }

  pub atom-read : {n p d e : ℕ} {x : Atom} → scan bs p ≡ Ok (Some (a_word (word.Atom x) e)) → n ≤ 11 → d ≤ 16 → Expression bs n p d (skip bs e) 11
  atom-read {n} {p} {d} {e} {x} h k l = record { tree = leaf x; fits = k; lies = (e, h, l, (refl, refl)); level = refl; stops = λ i. tt }

  -- brackets
  pub deep-first : {n p d e : ℕ} → scan bs p ≡ Ok (Some (a_word (word.Mark Open) e)) → d ≡ 16 → Broken bs (at n) p d (TooDeep p)
  deep-first {n} {p} {d} {e} h k = record {
    read = [];
    place = p;
    depth = d;
    lies = (refl, refl);
    alive = λ es a fs. (due fs n, refl);
    stuck = λ es a fs. too_deep {s = inside es a (due (group n ∷ fs) 1)} h refl k;
  }

  pub open-leads : {n p d e : ℕ} → scan bs p ≡ Ok (Some (a_word (word.Mark Open) e)) → d < 16 → Leads (at n) (at_in (group n) 1) p d (skip bs e) (d + 1)
  open-leads {n} {p} {d} {e} h k = record { by = word.Mark Open ∷ []; lies = (e, h, omega arith, (refl, refl)); goes = λ es a fs. refl }

  pub if-leads : {n p d e : ℕ} → scan bs p ≡ Ok (Some (a_word (word.Mark If) e)) → n ≤ 3 → d ≤ 16 → Leads (at n) (at_in (test n) 3) p d (skip bs e) d
  if-leads {n} {p} {d} {e} h k l = record { by = word.Mark If ∷ []; lies = (e, h, l, (refl, refl)); goes = λ es a fs. one es a (due fs n) (due (test n ∷ fs) 3) (word.Mark If) [] (cond-true _ _ _ (le-leb n 3 k)) }

  -- an expression and then the mark that its frame waits for
  tree-by : {n p d q l e : ℕ} {k : Mark} (x : Expression bs n p d q l) → scan bs q ≡ Ok (Some (a_word (word.Mark k) e)) → opened_by k d ≤ 16 → Lies bs p d (words x.tree ++ word.Mark k ∷ []) (skip bs e) (opened_by k d)
  tree-by {n} {p} {d} {q} {l} {e} {k} x h o = lies-append (words x.tree) (word.Mark k ∷ []) p d q d _ _ x.lies (e, h, o, (refl, refl))

  pub then-leads : {m p d q l e : ℕ} (x : Expression bs 3 p d q l) → scan bs q ≡ Ok (Some (a_word (word.Mark Then) e)) → d ≤ 16 → Leads (at_in (test m) 3) (at_in (branch m x.tree) 3) p d (skip bs e) d
  then-leads {m} x h o = record { by = words x.tree ++ word.Mark Then ∷ []; lies = tree-by x h o; goes = λ es a fs. along es a x.tree (test m ∷ fs) 3 (word.Mark Then) [] x.fits (mark-stops x.tree Then) }

  pub else-leads : {m p d q l e : ℕ} (c : Tree) (x : Expression bs 3 p d q l) → scan bs q ≡ Ok (Some (a_word (word.Mark Else) e)) → d ≤ 16 → Leads (at_in (branch m c) 3) (at_in (other m c x.tree) 3) p d (skip bs e) d
  else-leads {m} c x h o = record { by = words x.tree ++ word.Mark Else ∷ []; lies = tree-by x h o; goes = λ es a fs. along es a x.tree (branch m c ∷ fs) 3 (word.Mark Else) [] x.fits (mark-stops x.tree Else) }

  -- an expression and then no mark that its frame waits for
  pub missing : {n p d q l : ℕ} {r : Refusal} (k : Mark) (f : Frame) → ((fs : List Frame) (t : Tree) (w : Token) → is k w ≡ false → (close (f ∷ fs) t w ≡ None) × (whole (f ∷ fs) t ≡ None)) → (x : Expression bs n p d q l) → Whole bs n q l → Missing bs q k r → Broken bs (at_in f n) p d r
  missing {n} {p} {d} {q} {l} {r} k f shut x o m = record {
    read = words x.tree;
    place = q;
    depth = d;
    lies = x.lies;
    alive = λ es a fs. (tip (f ∷ fs) n x.tree, at-tip es a x.tree (f ∷ fs) n x.fits);
    stuck = λ es a fs. go es a fs m;
  }
    where
      go : {r : Refusal} (es : List Equation) (a : Atom) (fs : List Frame) → Missing bs q k r → Stuck bs (run (inside es a (at_in f n fs))) (words x.tree) q d r
      go es a fs (halted h) = no_word h
      go es a fs (other_word {w = w} {e = e} h i) =
          no_such h (
          along es a x.tree (f ∷ fs) n w [] x.fits (x.stops h)
          ∙ ap (λ z. and_then (enter es a (go_on z (f ∷ fs) n x.tree (close (f ∷ fs) x.tree w)) (end_equation es a (whole (f ∷ fs) x.tree) w)) (λ y. run y [])) (ap (λ j. takes n j w) x.level ∙ o.none w e h)
          ∙ ap (λ z. and_then (enter es a z (end_equation es a (whole (f ∷ fs) x.tree) w)) (λ y. run y [])) (shut fs x.tree w i).0
          ∙ ap (λ z. and_then (end_equation es a z w) (λ y. run y [])) (shut fs x.tree w i).1
          )

  pub no-close : {n p d q l : ℕ} {r : Refusal} (x : Expression bs 1 p d q l) → Whole bs 1 q l → Missing bs q Close r → Broken bs (at_in (group n) 1) p d r
  no-close {n} x o m = missing Close (group n) (λ fs t w i. (cond-false _ _ _ i, refl)) x o m

  pub no-then : {n p d q l : ℕ} {r : Refusal} (x : Expression bs 3 p d q l) → Whole bs 3 q l → Missing bs q Then r → Broken bs (at_in (test n) 3) p d r
  no-then {n} x o m = missing Then (test n) (λ fs t w i. (cond-false _ _ _ i, refl)) x o m

  pub no-else : {n p d q l : ℕ} {r : Refusal} (c : Tree) (x : Expression bs 3 p d q l) → Whole bs 3 q l → Missing bs q Else r → Broken bs (at_in (branch n c) 3) p d r
  no-else {n} c x o m = missing Else (branch n c) (λ fs t w i. (cond-false _ _ _ i, refl)) x o m

  pub group-read : {n p d e q l g : ℕ} → scan bs p ≡ Ok (Some (a_word (word.Mark Open) e)) → n ≤ 11 → d < 16 → (x : Expression bs 1 (skip bs e) (d + 1) q l) → scan bs q ≡ Ok (Some (a_word (word.Mark Close) g)) → Expression bs n p d (skip bs g) 11
  group-read {n} {p} {d} {e} {q} {l} {g} h k lt x i =
      let back : d + 1 - 1 ≡ d = omega arith in
      record {
        tree = bracket x.tree;
        fits = (k, x.fits);
        lies = (e, h, omega arith, subst (λ c. Lies bs (skip bs e) (d + 1) (words x.tree ++ word.Mark Close ∷ []) (skip bs g) c) back (tree-by x i (omega arith)));
        level = refl;
        stops = λ j. tt;
      }

  -- what an operand at the right end says of the next word
  ends : {n p d q l : ℕ} (x : Expression bs n p d q l) → Whole bs n q l → {w : Token} {e : ℕ} → scan bs q ≡ Ok (Some (a_word w e)) → (takes n (level_of x.tree) w ≡ None) × Stops x.tree w
  ends {n} x o {w} {e} h = (ap (λ j. takes n j w) x.level ∙ o.none w e h, x.stops h)

  pub choice-read : {n p d e q₁ l₁ e₁ q₂ l₂ e₂ q₃ l₃ : ℕ} → scan bs p ≡ Ok (Some (a_word (word.Mark If) e)) → n ≤ 3 → d ≤ 16 → (x : Expression bs 3 (skip bs e) d q₁ l₁) → scan bs q₁ ≡ Ok (Some (a_word (word.Mark Then) e₁)) → (y : Expression bs 3 (skip bs e₁) d q₂ l₂) → scan bs q₂ ≡ Ok (Some (a_word (word.Mark Else) e₂)) → (z : Expression bs 3 (skip bs e₂) d q₃ l₃) → Whole bs 3 q₃ l₃ → Expression bs n p d q₃ 3
  choice-read {e = e} {e₁ = e₁} {e₂ = e₂} h k o x i y j z w = record {
    tree = choice x.tree y.tree z.tree;
    fits = (k, x.fits, y.fits, z.fits);
    lies = (e, h, o, lies-append (words x.tree) (word.Mark Then ∷ (words y.tree ++ word.Mark Else ∷ words z.tree)) _ _ _ _ _ _ x.lies (e₁, i, o, lies-append (words y.tree) (word.Mark Else ∷ words z.tree) _ _ _ _ _ _ y.lies (e₂, j, o, z.lies)));
    level = refl;
    stops = λ s. ends z w s;
  }

  -- prefix operators
  prefix-lies : (p d e q : ℕ) (u : Prefix) (ws : List Token) → scan bs p ≡ Ok (Some (a_word (symbol u) e)) → d ≤ 16 → Lies bs (skip bs e) d ws q d → Lies bs p d (symbol u ∷ ws) q d
  prefix-lies p d e q Negate ws h o l = (e, h, o, l)
  prefix-lies p d e q First ws h o l = (e, h, o, l)
  prefix-lies p d e q Next ws h o l = (e, h, o, l)
  prefix-lies p d e q Not ws h o l = (e, h, o, l)

  pub prefix-leads : {n p d e : ℕ} (u : Prefix) → scan bs p ≡ Ok (Some (a_word (symbol u) e)) → n ≤ prefix_level u → d ≤ 16 → Leads (at n) (at_in (operand n u) (prefix_level u)) p d (skip bs e) d
  prefix-leads {n} {p} {d} {e} u h k o = record { by = symbol u ∷ []; lies = prefix-lies p d e _ u [] h o (refl, refl); goes = λ es a fs. one es a (due fs n) (due (operand n u ∷ fs) (prefix_level u)) (symbol u) [] (begins fs n u k) }

  pub prefix-read : {n p d e q l : ℕ} (u : Prefix) → scan bs p ≡ Ok (Some (a_word (symbol u) e)) → n ≤ prefix_level u → d ≤ 16 → (x : Expression bs (prefix_level u) (skip bs e) d q l) → Whole bs (prefix_level u) q l → Expression bs n p d q (prefix_level u)
  prefix-read {p = p} {d = d} {e = e} {q = q} u h k o x w = record { tree = prefix u x.tree; fits = (k, x.fits); lies = prefix-lies p d e q u (words x.tree) h o x.lies; level = refl; stops = λ s. ends x w s }

  -- operators between two operands
  left-of : {n p d q l : ℕ} (op : Infix) (x : Expression bs n p d q l) → takes n l (word.Infix op) ≡ Some op → (n ≤ (levels op).own) × Fits (levels op).left x.tree
  left-of {n} {l = l} op x t =
      let h = taken n l (word.Infix op) op t in
      (h.low, refit n (levels op).left x.tree (subst (λ j. (levels op).left ≤ j) (sym x.level) h.high) x.fits)

  pub infix-leads : {n p d q l e : ℕ} (op : Infix) (x : Expression bs n p d q l) → scan bs q ≡ Ok (Some (a_word (word.Infix op) e)) → takes n l (word.Infix op) ≡ Some op → d ≤ 16 → Leads (at n) (at_in (right n op x.tree) (levels op).right) p d (skip bs e) d
  infix-leads {n} {p} {d} {q} {l} {e} op x h t o =
      let f = left-of op x t in
      record {
        by = words x.tree ++ word.Infix op ∷ [];
        lies = lies-append (words x.tree) (word.Infix op ∷ []) p d q d _ _ x.lies (e, h, o, (refl, refl));
        goes = λ es a fs. infix-left es a op x.tree fs n [] f.0 f.1;
      }

  pub infix-read : {n p d q l e q₂ l₂ : ℕ} (op : Infix) (x : Expression bs n p d q l) → scan bs q ≡ Ok (Some (a_word (word.Infix op) e)) → takes n l (word.Infix op) ≡ Some op → d ≤ 16 → (y : Expression bs (levels op).right (skip bs e) d q₂ l₂) → Whole bs (levels op).right q₂ l₂ → Expression bs n p d q₂ (levels op).own
  infix-read {n} {p} {d} {q} {l} {e} op x h t o y w =
      let f = left-of op x t in
      record {
        tree = infix' op x.tree y.tree;
        fits = (f.0, f.1, y.fits);
        lies = lies-append (words x.tree) (word.Infix op ∷ words y.tree) p d q d _ _ x.lies (e, h, o, y.lies);
        level = refl;
        stops = λ s. ends y w s;
      }

  pub no-word-after : {n p d q l : ℕ} (x : Expression bs n p d q l) → scan bs q ≡ Err not_a_word → Broken bs (at n) p d (NoWord q)
  no-word-after {n} {p} {d} {q} x h = record {
    read = words x.tree;
    place = q;
    depth = d;
    lies = x.lies;
    alive = λ es a fs. (tip fs n x.tree, at-tip es a x.tree fs n x.fits);
    stuck = λ es a fs. no_word (bad h);
  }

-- The same at an equal text and place, as the code has them.
pub moved_ok : {bs bs' : List ℕ} {n p p' d q l : ℕ} → bs' ≡ bs → p' ≡ p → Expression bs' n p' d q l × Whole bs' n q l → Expression bs n p d q l × Whole bs n q l
moved_ok {bs} {bs'} {n} {p} {p'} {d} {q} {l} e f h = subst (λ b. Expression b n p d q l × Whole b n q l) e (subst (λ y. Expression bs' n y d q l × Whole bs' n q l) f h)

pub moved-err : {bs bs' : List ℕ} {x : List Frame → Spot} {p p' d : ℕ} {r : Refusal} → bs' ≡ bs → p' ≡ p → Broken bs' x p' d r → Broken bs x p d r
moved-err {bs} {bs'} {x} {p} {p'} {d} {r} e f h = subst (λ b. Broken b x p d r) e (subst (λ y. Broken bs' x y d r) f h)

-- a word that begins no expression of level n
pub no-mark-begins : (n : ℕ) (m : Mark) (fs : List Frame) → (m ≡ Open → ⊥) → (m ≡ If → ⊥) → begin fs n (word.Mark m) ≡ None
no-mark-begins n Compute fs o i = refl
no-mark-begins n Output fs o i = refl
no-mark-begins n Where fs o i = refl
no-mark-begins n End fs o i = refl
no-mark-begins n If fs o i = absurd (i refl)
no-mark-begins n Then fs o i = refl
no-mark-begins n Else fs o i = refl
no-mark-begins n Open fs o i = absurd (o refl)
no-mark-begins n Close fs o i = refl
no-mark-begins n Equals fs o i = refl
no-mark-begins n Semicolon fs o i = refl

pub no-if-begins : (n : ℕ) (fs : List Frame) → 3 < n → begin fs n (word.Mark If) ≡ None
no-if-begins n fs h = cond-false _ _ _ (lt-leb n 3 h)

pub operator : (w : Token) → ((a : Atom) → w ≡ word.Atom a → ⊥) → ((m : Mark) → w ≡ word.Mark m → ⊥) → Begins w
operator (word.Atom a) f g = f a refl
operator (word.Infix op) f g = tt
operator word.First f g = tt
operator word.Next f g = tt
operator word.Not f g = tt
operator (word.Mark m) f g = g m refl

pub by-prefix : (w : Token) (n : ℕ) (fs : List Frame) → Begins w → begin fs n w ≡ begin_prefix fs n (as_prefix w)
by-prefix (word.Atom a) n fs b = absurd b
by-prefix (word.Infix op) n fs b = refl
by-prefix word.First n fs b = refl
by-prefix word.Next n fs b = refl
by-prefix word.Not n fs b = refl
by-prefix (word.Mark m) n fs b = absurd b

pub no-prefix-begins : (w : Token) (n : ℕ) → Begins w → as_prefix w ≡ None → (fs : List Frame) → begin fs n w ≡ None
no-prefix-begins w n b e fs = by-prefix w n fs b ∙ ap (begin_prefix fs n) e

pub low-prefix-begins : (w : Token) (n : ℕ) (u : Prefix) → Begins w → as_prefix w ≡ Some u → prefix_level u < n → (fs : List Frame) → begin fs n w ≡ None
low-prefix-begins w n u b e h fs = by-prefix w n fs b ∙ ap (begin_prefix fs n) e ∙ cond-false _ _ _ (lt-leb n (prefix_level u) h)

pub prefix-word : (w : Token) (u : Prefix) → as_prefix w ≡ Some u → w ≡ symbol u
prefix-word (word.Atom a) u e = cc
prefix-word (word.Infix op) u e = minus_is op u e
prefix-word word.First u e = cc
prefix-word word.Next u e = cc
prefix-word word.Not u e = cc
prefix-word (word.Mark m) u e = cc

pub moved-level : {bs : List ℕ} {n n' p d q l : ℕ} → n' ≡ n → Expression bs n' p d q l × Whole bs n' q l → Expression bs n p d q l × Whole bs n q l
moved-level {bs} {n} {n'} {p} {d} {q} {l} e h = subst (λ x. Expression bs x p d q l × Whole bs x q l) e h

pub moved_at : {bs : List ℕ} {n n' p d : ℕ} {r : Refusal} → n' ≡ n → Broken bs (λ fs. due fs n') p d r → Broken bs (λ fs. due fs n) p d r
moved_at {bs} {n} {n'} {p} {d} {r} e h = subst (λ x. Broken bs (λ fs. due fs x) p d r) e h

pub ends_at : {bs : List ℕ} {n p d q q' l l' : ℕ} → q' ≡ q → l ≡ l' → Expression bs n p d q l → Expression bs n p d q' l'
ends_at {bs} {n} {p} {d} {q} {q'} {l} {l'} e f h = subst (λ y. Expression bs n p d y l') (sym e) (subst (λ y. Expression bs n p d q y) f h)

pub moved-missing : {bs bs' : List ℕ} {q : ℕ} {m : Mark} {r : Refusal} → bs' ≡ bs → Missing bs' q m r → Missing bs q m r
moved-missing {q = q} {m = m} {r = r} e h = subst (λ b. Missing b q m r) e h

pub moved-marked : (bs bs' : List ℕ) (q q' : ℕ) (w : Token) → bs' ≡ bs → (e : ℕ) × (scan bs' q ≡ Ok (Some (a_word w e))) × (q' ≡ skip bs' e) → (e : ℕ) × (scan bs q ≡ Ok (Some (a_word w e))) × (q' ≡ skip bs e)
moved-marked bs bs' q q' w e h = subst (λ b. (g : ℕ) × (scan b q ≡ Ok (Some (a_word w g))) × (q' ≡ skip b g)) e h

pub no-word-is : {bs : List ℕ} {x : List Frame → Spot} {p d q : ℕ} {r : Refusal} → r ≡ NoWord q → Broken bs x p d (NoWord q) → Broken bs x p d r
no-word-is {bs} {x} {p} {d} e h = subst (λ r. Broken bs x p d r) (sym e) h
