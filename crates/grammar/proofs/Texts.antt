-- Whatever words the machine has read begin a text of the grammar. Assumes nothing.
use Rattle.std.proofs.Common.{◌≡◌, ℕ, Bool, true, false, cond, List, [], ◌∷◌, ◌++◌, map, Some, None, Option, sym, refl, ap, ◌∙◌, subst, append_assoc, append-nil, arith}
use Rattle.lexer.specs.declared.token.Atom.{Atom}
use Rattle.lexer.specs.declared.token.Atom.TheVariants as atom
use Rattle.lexer.specs.declared.token.Mark.{Mark}
use Rattle.lexer.specs.declared.token.Mark.TheVariants.{Compute, Output, Where, End, Equals, Semicolon}
use Rattle.lexer.specs.declared.token.Token.{Token}
use Rattle.lexer.specs.declared.token.Token.TheVariants as word
use Rattle.grammar.specs.Grammar.{Tree, leaf, prefix, infix', choice, Fits, words, Equation, equation_words, body_words, text_words, Nameable, Formed, AllFormed, Viable}
use Rattle.grammar.specs.Machine.{Frame, group, operand, right, test, branch, other, Spot, due, read, and_then, is, advance, State, header, name, equals, inside, ended, nameable, begin_equation, whole, whole_at, end_equation, enter, after_header, step, run}
use Rattle.grammar.proofs.Parts.{some_is, picked, is_true, only-some}
use Rattle.grammar.proofs.Sound.{Placed, so_far, spot-words, Good, advanced, completed}

abbrev head-words : List Token
head-words = word.Mark Compute ∷ word.Mark Output ∷ word.Mark Where ∷ []

-- equations, each with its semicolon
abbrev said : List Equation → List Token
said [] = []
said (e ∷ es) = equation_words e ++ word.Mark Semicolon ∷ said es

said_more : (es : List Equation) (e : Equation) → said (es ++ e ∷ []) ≡ said es ++ (equation_words e ++ word.Mark Semicolon ∷ [])
said_more [] e = refl
said_more (x ∷ es) e = ap (λ l. equation_words x ++ word.Mark Semicolon ∷ l) (said_more es e) ∙ simp append_assoc

formed-more : (es : List Equation) (e : Equation) → AllFormed es → Formed e → AllFormed (es ++ e ∷ [])
formed-more [] e all f = (f, tt)
formed-more (x ∷ es) e all f = (all.0, formed-more es e all.1 f)

-- the equations es ++ e ∷ [] as a first one and others
record Parted (es : List Equation) (e : Equation) : Type 0 where
  first : Equation
  others : List Equation
  same : first ∷ others ≡ es ++ e ∷ []
  written : body_words first others ≡ said es ++ (equation_words e ++ word.Mark End ∷ [])
  formed : Formed first × AllFormed others

parted : (es : List Equation) (e : Equation) → AllFormed es → Formed e → Parted es e
parted [] e all f = record { first = e; others = []; same = refl; written = refl; formed = (f, tt) }
parted (x ∷ es) e all f =
    let p = parted es e all.1 f in
    record {
      first = x;
      others = p.first ∷ p.others;
      same = ap (λ l. x ∷ l) p.same;
      written = ap (λ l. equation_words x ++ word.Mark Semicolon ∷ l) p.written ∙ simp append_assoc;
      formed = (all.0, (p.formed.0, p.formed.1));
    }

-- a text with its equations
pub record Ended (ws : List Token) (es : List Equation) : Type 0 where
  pub first : Equation
  pub others : List Equation
  pub same : first ∷ others ≡ es
  pub formed : Formed first × AllFormed others
  pub written : ws ≡ text_words first others

-- what holds of the words ws that lead to a state
abbrev pub Reached : List Token → State → Type 0
Reached ws (header ks) = ws ++ map word.Mark ks ≡ head-words
Reached ws (name es) = (ws ≡ head-words ++ said es) × AllFormed es
Reached ws (equals es a) = (ws ≡ head-words ++ (said es ++ word.Atom a ∷ [])) × AllFormed es × Nameable a
Reached ws (inside es a s) = (ws ≡ head-words ++ (said es ++ word.Atom a ∷ word.Mark Equals ∷ spot-words s)) × AllFormed es × Nameable a × Good s
Reached ws (ended es) = Ended ws es

nameable-is : (a : Atom) → nameable a ≡ true → Nameable a
nameable-is (atom.Name n) e = tt
nameable-is (atom.Channel k) e = tt
nameable-is (atom.Literal v) e = cc
nameable-is (atom.Truth b) e = cc

-- a whole expression, where all frames are complete
pub whole_is : (fs : List Frame) (n : ℕ) (t r : Tree) → whole fs t ≡ Some r → Placed fs n → Fits n t → (words r ≡ so_far fs ++ words t) × Fits 1 r
whole_is [] n t r e p f = (ap words (sym (some_is e)), subst (λ x. Fits 1 x) (some_is e) (subst (λ k. Fits k t) p f))
whole_is (group m ∷ fs) n t r e p f = cc
whole_is (operand m u ∷ fs) n t r e p f =
    let h = whole_is fs m (prefix u t) r e p.2 (p.1, subst (λ k. Fits k t) p.0 f) in
    (h.0 ∙ simp append_assoc, h.1)
whole_is (right m op l ∷ fs) n t r e p f =
    let h = whole_is fs m (infix' op l t) r e p.3 (p.1, p.2, subst (λ k. Fits k t) p.0 f) in
    (h.0 ∙ simp append_assoc, h.1)
whole_is (test m ∷ fs) n t r e p f = cc
whole_is (branch m c ∷ fs) n t r e p f = cc
whole_is (other m c a ∷ fs) n t r e p f =
    let h = whole_is fs m (choice c a t) r e p.4 (p.1, p.2, p.3, subst (λ k. Fits k t) p.0 f) in
    (h.0 ∙ simp append_assoc, h.1)

whole-at-is : (s : Spot) (r : Tree) → whole_at s ≡ Some r → Good s → (words r ≡ spot-words s) × Fits 1 r
whole-at-is (due fs n) r e g = cc
whole-at-is (read fs n t) r e g = whole_is fs n t r e g.0 g.1

headed : (k : Mark) (ks : List Mark) (ws : List Token) → ws ++ word.Mark k ∷ map word.Mark ks ≡ head-words → Reached (ws ++ word.Mark k ∷ []) (after_header ks)
headed k [] ws h = (h, tt)
headed k (j ∷ ks) ws h = append_assoc ws (word.Mark k ∷ []) (word.Mark j ∷ map word.Mark ks) ∙ h

module _ (ws : List Token) (w : Token) where
  named : (es : List Equation) (v : Token) (s : State) → v ≡ w → begin_equation es v ≡ Some s → Reached ws (name es) → Reached (ws ++ w ∷ []) s
  named es (word.Atom a) s i e r =
      let q = picked (nameable a) (equals es a) s e in
      subst (Reached (ws ++ w ∷ [])) q.1 (ap (λ l. l ++ w ∷ []) r.0 ∙ append_assoc head-words (said es) (w ∷ []) ∙ ap (λ v. head-words ++ (said es ++ v ∷ [])) (sym i), r.1, nameable-is a q.0)
  named es (word.Infix op) s i e r = cc
  named es word.First s i e r = cc
  named es word.Next s i e r = cc
  named es word.Not s i e r = cc
  named es (word.Mark m) s i e r = cc

  finished : (es : List Equation) (a : Atom) (t : Tree) (s : State) (b : Bool) → is Semicolon w ≡ b → cond b (Some (name (es ++ record { head = a; tree = t } ∷ []))) (cond (is End w) (Some (ended (es ++ record { head = a; tree = t } ∷ []))) None) ≡ Some s → ws ≡ head-words ++ (said es ++ word.Atom a ∷ word.Mark Equals ∷ words t) → AllFormed es → Nameable a → Fits 1 t → Reached (ws ++ w ∷ []) s
  finished es a t s true b e r all nm f =
      let eq : Equation = record { head = a; tree = t } in
      let m : (head-words ++ (said es ++ equation_words eq)) ++ word.Mark Semicolon ∷ [] ≡ head-words ++ (said es ++ (equation_words eq ++ word.Mark Semicolon ∷ [])) = simp append_assoc in
      subst (Reached (ws ++ w ∷ [])) (some_is e) (
        ap (λ l. l ++ w ∷ []) r ∙ ap (λ v. (head-words ++ (said es ++ equation_words eq)) ++ v ∷ []) (is_true Semicolon w b) ∙ m ∙ ap (λ l. head-words ++ l) (sym (said_more es eq)),
        formed-more es eq all (nm, f),
      )
  finished es a t s false b e r all nm f =
      let eq : Equation = record { head = a; tree = t } in
      let q = picked (is End w) (ended (es ++ eq ∷ [])) s e in
      let p = parted es eq all (nm, f) in
      let m : (head-words ++ (said es ++ equation_words eq)) ++ word.Mark End ∷ [] ≡ head-words ++ (said es ++ (equation_words eq ++ word.Mark End ∷ [])) = simp append_assoc in
      subst (Reached (ws ++ w ∷ [])) q.1 (record {
        first = p.first;
        others = p.others;
        same = p.same;
        formed = p.formed;
        written = ap (λ l. l ++ w ∷ []) r ∙ ap (λ v. (head-words ++ (said es ++ equation_words eq)) ++ v ∷ []) (is_true End w q.0) ∙ m ∙ ap (λ l. head-words ++ l) (sym p.written);
      })

  over : (es : List Equation) (a : Atom) (x : Spot) (o : Option Tree) (s : State) → whole_at x ≡ o → end_equation es a o w ≡ Some s → Reached ws (inside es a x) → Reached (ws ++ w ∷ []) s
  over es a x None s i e r = cc
  over es a x (Some t) s i e r =
      let h = whole-at-is x t i r.3 in
      finished es a t s (is Semicolon w) refl e (r.0 ∙ ap (λ l. head-words ++ (said es ++ word.Atom a ∷ word.Mark Equals ∷ l)) (sym h.0)) r.1 r.2 h.1

  within : (es : List Equation) (a : Atom) (x : Spot) (o : Option Spot) (s : State) → advance x w ≡ o → enter es a o (end_equation es a (whole_at x) w) ≡ Some s → Reached ws (inside es a x) → Reached (ws ++ w ∷ []) s
  within es a x None s i e r = over es a x (whole_at x) s refl e r
  within es a x (Some y) s i e r =
      let h = advanced x w y i r.3 in
      let m : (head-words ++ (said es ++ word.Atom a ∷ word.Mark Equals ∷ spot-words x)) ++ w ∷ [] ≡ head-words ++ (said es ++ word.Atom a ∷ word.Mark Equals ∷ (spot-words x ++ w ∷ [])) = simp append_assoc in
      subst (Reached (ws ++ w ∷ [])) (some_is e) (
        ap (λ l. l ++ w ∷ []) r.0 ∙ m ∙ ap (λ l. head-words ++ (said es ++ word.Atom a ∷ word.Mark Equals ∷ l)) (sym h.more),
        r.1,
        r.2,
        h.good,
      )

  pub stepped : (x s : State) → step x w ≡ Some s → Reached ws x → Reached (ws ++ w ∷ []) s
  stepped (header []) s e r = cc
  stepped (header (k ∷ ks)) s e r =
      let o = only-some k w (after_header ks) s e in
      subst (Reached (ws ++ w ∷ [])) o.1 (subst (λ v. Reached (ws ++ v ∷ []) (after_header ks)) (sym o.0) (headed k ks ws r))
  stepped (name es) s e r = named es w s refl e r
  stepped (equals es a) s e r =
      let o = only-some Equals w (inside es a (due [] 1)) s e in
      subst (Reached (ws ++ w ∷ [])) o.1 (
        ap (λ l. l ++ w ∷ []) r.0 ∙ ap (λ v. (head-words ++ (said es ++ word.Atom a ∷ [])) ++ v ∷ []) o.0 ∙ simp append_assoc,
        r.1,
        r.2,
        refl,
      )
  stepped (inside es a x) s e r = within es a x (advance x w) s refl e r
  stepped (ended es) s e r = cc

ran-step : (w : Token) (ws done : List Token) (x s : State) (o : Option State) → step x w ≡ o → and_then o (λ y. run y ws) ≡ Some s → Reached done x → ((y : State) → run y ws ≡ Some s → Reached (done ++ w ∷ []) y → Reached ((done ++ w ∷ []) ++ ws) s) → Reached (done ++ w ∷ ws) s
ran-step w ws done x s None i e r more = cc
ran-step w ws done x s (Some y) i e r more = subst (λ l. Reached l s) (append_assoc done (w ∷ []) ws) (more y e (stepped done w x y i r))

pub ran : (ws done : List Token) (x s : State) → run x ws ≡ Some s → Reached done x → Reached (done ++ ws) s
ran [] done x s e r = subst (λ l. Reached l s) (sym (append-nil done)) (subst (Reached done) (some_is e) r)
ran (w ∷ ws) done x s e r = ran-step w ws done x s (step x w) refl e r (λ y e' r'. ran ws (done ++ w ∷ []) y s e' r')

-- every state that is reached is on the way to a text
tail-text : (ws rest : List Token) (es : List Equation) (e : Equation) → AllFormed es → Formed e → ws ++ rest ≡ head-words ++ (said es ++ (equation_words e ++ word.Mark End ∷ [])) → Viable ws
tail-text ws rest es e all f h =
    let p = parted es e all f in
    (rest, record { first = p.first; others = p.others; formed = p.formed; written = h ∙ ap (λ l. head-words ++ l) (sym p.written) })

small : Equation
small = record { head = atom.Channel 0; tree = leaf (atom.Truth true) }

small-formed : Formed small
unfolding small
small-formed = (tt, omega arith)

pub viable : (ws : List Token) (s : State) → Reached ws s → Viable ws
unfolding small
viable ws (header ks) r = tail-text ws (map word.Mark ks ++ (equation_words small ++ word.Mark End ∷ [])) [] small tt small-formed (sym (append_assoc ws (map word.Mark ks) _) ∙ ap (λ l. l ++ (equation_words small ++ word.Mark End ∷ [])) r)
viable ws (name es) r = tail-text ws (equation_words small ++ word.Mark End ∷ []) es small r.1 small-formed (ap (λ l. l ++ (equation_words small ++ word.Mark End ∷ [])) r.0 ∙ simp append_assoc)
viable ws (equals es a) r =
    let e : Equation = record { head = a; tree = leaf (atom.Truth true) } in
    tail-text ws (word.Mark Equals ∷ word.Atom (atom.Truth true) ∷ word.Mark End ∷ []) es e r.1 (r.2, omega arith) (ap (λ l. l ++ (word.Mark Equals ∷ word.Atom (atom.Truth true) ∷ word.Mark End ∷ [])) r.0 ∙ simp append_assoc)
viable ws (inside es a s) r =
    let c = completed s r.3 in
    let e : Equation = record { head = a; tree = c.tree } in
    let m : (head-words ++ (said es ++ word.Atom a ∷ word.Mark Equals ∷ spot-words s)) ++ (c.rest ++ word.Mark End ∷ []) ≡ head-words ++ (said es ++ word.Atom a ∷ word.Mark Equals ∷ (spot-words s ++ (c.rest ++ word.Mark End ∷ []))) = simp append_assoc in
    tail-text ws (c.rest ++ word.Mark End ∷ []) es e r.1 (r.2, c.fits) (ap (λ l. l ++ (c.rest ++ word.Mark End ∷ [])) r.0 ∙ m ∙ ap (λ l. head-words ++ (said es ++ word.Atom a ∷ word.Mark Equals ∷ l)) (sym (append_assoc (spot-words s) c.rest (word.Mark End ∷ [])) ∙ ap (λ l. l ++ word.Mark End ∷ []) (sym c.begins)))
viable ws (ended es) r = ([], record { first = r.first; others = r.others; formed = r.formed; written = append-nil ws ∙ r.written })
