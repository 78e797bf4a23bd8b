-- From the machine to the judgement on a text. Assumes nothing.
use Rattle.std.proofs.Common.{◌≡◌, ℕ, ◌≤◌, Bool, true, false, cond, List, [], ◌∷◌, ◌++◌, Some, None, Ok, Err, Option, Result, sym, refl, ap, ◌∙◌, subst, append_assoc, arith}
use Rattle.lexer.specs.declared.token.Atom.{Atom}
use Rattle.lexer.specs.declared.token.Mark.{Mark}
use Rattle.lexer.specs.declared.token.Mark.TheVariants.{Where, End, Open, Equals, Semicolon}
use Rattle.lexer.specs.declared.token.Token.{Token}
use Rattle.lexer.specs.declared.token.Token.TheVariants as word
use Rattle.grammar.specs.Grammar.{words, Equation}
use Rattle.grammar.specs.Machine.{Spot, due, and_then, takes, go_on, is, State, header, name, equals, inside, ended, nameable, begin_equation, end_equation, enter, after_header, step, run, start}
use Rattle.syntax.specs.declared.refusal.Refusal.{Refusal}
use Rattle.lexer.specs.Lexer.{skip, scan, a_word, not_a_word}
use Rattle.syntax.specs.declared.refusal.Refusal.TheVariants.{NoWord, Unexpected}
use Rattle.syntax.specs.Reading.{Marked, Turned, none, wrong as wrong_word, AnotherRead, opened, opened_by, Expression, Whole, Missing, halted, other_word, Lies, Halt, bad, over, Stuck, no_word as stuck-word, no_such, too_deep as stuck-deep, Broken}
use Rattle.syntax.specs.Judgement.{Way, HeaderRead, EquationRead, Wrong, no_word, too_short, no_text, too_deep, Refused, Accepted}
use Rattle.grammar.proofs.Parts.{some_is}
use Rattle.grammar.proofs.Complete.{along, not-viable, run-append}
use Rattle.grammar.proofs.Exact.{lives-viable, text-ends, decides}
use Rattle.syntax.proofs.Steps.{tip, at-tip, lies-append}

module _ (bs : List ℕ) where
  -- a state that has not ended, and why nothing goes on from it
  wrong : (ws : List Token) (q c : ℕ) {r : Refusal} (s : State) → run start ws ≡ Some s → ((es : List Equation) → s ≡ ended es → ⊥) → Stuck bs (run start) ws q c r → Wrong bs ws q c r
  wrong ws q c s e live (stuck-word (bad h)) = no_word h
  wrong ws q c s e live (stuck-word (over h)) = too_short h (λ t. live (t.first ∷ t.others) (some_is (sym e ∙ text-ends ws t)))
  wrong ws q c s e live (no_such {w = w} h k) = no_text h (not-viable (ws ++ w ∷ []) k)
  wrong ws q c s e live (stuck-deep {s = x} h k d) = too_deep h (lives-viable (ws ++ word.Mark Open ∷ []) x k) d

  pub judged : (ws : List Token) (q c : ℕ) {r : Refusal} (s : State) → Lies bs (skip bs 0) 0 ws q c → run start ws ≡ Some s → ((es : List Equation) → s ≡ ended es → ⊥) → Stuck bs (run start) ws q c r → Refused bs r
  judged ws q c s l e live k = record { words = ws; place = q; depth = c; lies = l; viable = lives-viable ws s e; wrong = wrong ws q c s e live k }

  inside-open : (es gs : List Equation) (a : Atom) (x : Spot) → inside es a x ≡ ended gs → ⊥
  inside-open es gs a x e = cc

  after : (ws : List Token) (x : State) → run start ws ≡ Some x → (vs : List Token) → run start (ws ++ vs) ≡ run x vs
  after ws x e vs = run-append ws vs start ∙ ap (λ o. and_then o (λ y. run y vs)) e

  moved : (ws vs : List Token) (x : State) {q c : ℕ} {r : Refusal} → run start ws ≡ Some x → Stuck bs (run x) vs q c r → Stuck bs (run start) (ws ++ vs) q c r
  moved ws vs x e (stuck-word h) = stuck-word h
  moved ws vs x e (no_such {w = w} h k) = no_such h (ap (run start) (append_assoc ws vs (w ∷ [])) ∙ after ws x e (vs ++ w ∷ []) ∙ k)
  moved ws vs x e (stuck-deep h k d) = stuck-deep h (ap (run start) (append_assoc ws vs (word.Mark Open ∷ [])) ∙ after ws x e (vs ++ word.Mark Open ∷ []) ∙ k) d

  -- an expression that breaks, after the words that lead to it
  pub broken-judged : (ws : List Token) (p d : ℕ) {r : Refusal} (es : List Equation) (a : Atom) → Lies bs (skip bs 0) 0 ws p d → run start ws ≡ Some (inside es a (due [] 1)) → Broken bs (λ fs. due fs 1) p d r → Refused bs r
  broken-judged ws p d es a l e b =
      let s = b.alive es a [] in
      judged (ws ++ b.read) b.place b.depth (inside es a s.0)
      (lies-append bs ws b.read (skip bs 0) 0 p d b.place b.depth l b.lies)
      (after ws _ e b.read ∙ s.1)
      (λ gs i. inside-open es gs a s.0 i)
      (moved ws b.read _ e (b.stuck es a []))

  pub accepted : (ws : List Token) (q c : ℕ) (es : List Equation) → Lies bs (skip bs 0) 0 ws q c → run start ws ≡ Some (ended es) → scan bs q ≡ Ok None → Accepted bs
  accepted ws q c es l e f = record { words = ws; place = q; depth = c; lies = l; ends = f; text = (decides.ended_text ws es e).0 }

  pub way-start : Way bs start (skip bs 0) 0
  way-start = record { by = []; lies = (refl, refl); goes = refl }

  stepped : (by : List Token) (y z : State) (w : Token) → run start by ≡ Some y → step y w ≡ Some z → run start (by ++ w ∷ []) ≡ Some z
  stepped by y z w g s = after by y g (w ∷ []) ∙ ap (λ o. and_then o (λ x. run x [])) s

  pub way_step : {y z : State} {q c e : ℕ} {w : Token} → Way bs y q c → scan bs q ≡ Ok (Some (a_word w e)) → step y w ≡ Some z → opened w c ≤ 16 → Way bs z (skip bs e) (opened w c)
  way_step {y} {z} {q} {c} {e} {w} v h s o = record {
    by = v.by ++ w ∷ [];
    lies = lies-append bs v.by (w ∷ []) (skip bs 0) 0 q c (skip bs e) (opened w c) v.lies (e, h, o, (refl, refl));
    goes = stepped v.by y z w v.goes s;
  }

  abbrev pub OpenState : State → Type 0
  OpenState y = (es : List Equation) → y ≡ ended es → ⊥

  pub way-halt : {y : State} {q c : ℕ} {r : Refusal} → Way bs y q c → OpenState y → Halt bs q r → Refused bs r
  way-halt {y} {q} {c} v o h = judged v.by q c y v.lies v.goes o (stuck-word h)

  pub way-refused : {y : State} {q c e : ℕ} {w : Token} → Way bs y q c → scan bs q ≡ Ok (Some (a_word w e)) → step y w ≡ None → Refused bs (Unexpected q)
  way-refused {y} {q} {c} {e} {w} v h s = record {
    words = v.by;
    place = q;
    depth = c;
    lies = v.lies;
    viable = lives-viable v.by y v.goes;
    wrong = no_text h (not-viable (v.by ++ w ∷ []) (after v.by y v.goes (w ∷ []) ∙ ap (λ o. and_then o (λ x. run x [])) s));
  }

  pub way-missing : {y : State} {q c : ℕ} {r : Refusal} (m : Mark) → Way bs y q c → OpenState y → ((w : Token) → is m w ≡ false → step y w ≡ None) → Missing bs q m r → Refused bs r
  way-missing m v o s (halted h) = way-halt v o h
  way-missing m v o s (other_word {w = w} h i) = way-refused v h (s w i)

  pub way-broken : {q c : ℕ} {r : Refusal} (es : List Equation) (a : Atom) → Way bs (inside es a (due [] 1)) q c → Broken bs (λ fs. due fs 1) q c r → Refused bs r
  way-broken {q} {c} es a v b = broken-judged v.by q c es a v.lies v.goes b

  module _ (es : List Equation) (a : Atom) where
    -- the state after the whole expression
    pub way-tree : {p d q l : ℕ} → Way bs (inside es a (due [] 1)) p d → (x : Expression bs 1 p d q l) → Way bs (inside es a (tip [] 1 x.tree)) q d
    way-tree {p} {d} {q} v x = record {
      by = v.by ++ words x.tree;
      lies = lies-append bs v.by (words x.tree) (skip bs 0) 0 p d q d v.lies x.lies;
      goes = after v.by _ v.goes (words x.tree) ∙ at-tip es a x.tree [] 1 x.fits;
    }

    -- what the next word does there
    pub tree-step : {p d q l e : ℕ} (x : Expression bs 1 p d q l) → Whole bs 1 q l → (w : Token) → scan bs q ≡ Ok (Some (a_word w e)) → step (inside es a (tip [] 1 x.tree)) w ≡ end_equation es a (Some x.tree) w
    tree-step {e = e} x o w h =
        one-step (step (inside es a (tip [] 1 x.tree)) w)
        ∙ sym (after-tip (w ∷ []))
        ∙ along es a x.tree [] 1 w [] x.fits (x.stops h)
        ∙ ap (λ z. and_then (enter es a (go_on z [] 1 x.tree None) (end_equation es a (Some x.tree) w)) (λ y. run y [])) (ap (λ j. takes 1 j w) x.level ∙ o.none w e h)
        ∙ sym (one-step (end_equation es a (Some x.tree) w))
      where
        one-step : (o : Option State) → o ≡ and_then o (λ y. run y [])
        one-step None = refl
        one-step (Some y) = refl

        after-tip : (vs : List Token) → run (inside es a (due [] 1)) (words x.tree ++ vs) ≡ run (inside es a (tip [] 1 x.tree)) vs
        after-tip vs = run-append (words x.tree) vs (inside es a (due [] 1)) ∙ ap (λ o. and_then o (λ y. run y vs)) (at-tip es a x.tree [] 1 x.fits)

  pub inside-is-open : (es : List Equation) (a : Atom) (x : Spot) → OpenState (inside es a x)
  inside-is-open es a x gs e = inside-open es gs a x e

  pub way_end : {q c : ℕ} (es : List Equation) → Way bs (ended es) q c → scan bs q ≡ Ok None → Accepted bs
  way_end {q} {c} es v f = accepted v.by q c es v.lies v.goes f

  pub bad_refused : {y : State} {q c : ℕ} {r : Refusal} → Way bs y q c → (r ≡ NoWord q) × (scan bs q ≡ Err not_a_word) → Refused bs r
  bad_refused {y} {q} {c} v h = subst (Refused bs) (sym h.0) (record { words = v.by; place = q; depth = c; lies = v.lies; viable = lives-viable v.by y v.goes; wrong = no_word h.1 })

  pub mark-way : {y z : State} {q q' c : ℕ} (m : Mark) → Way bs y q c → (e : ℕ) × (scan bs q ≡ Ok (Some (a_word (word.Mark m) e))) × (q' ≡ skip bs e) → step y (word.Mark m) ≡ Some z → opened_by m c ≡ c → c ≤ 16 → Way bs z q' c
  mark-way {y} {z} {q} {q'} {c} m v k s o l =
      let w : Way bs z (skip bs k.0) (opened_by m c) = way_step v k.1 s (omega (arith, o)) in
      subst (λ x. Way bs z x c) (sym k.2) (subst (λ d. Way bs z (skip bs k.0) d) o w)

  pub way-first : (p : ℕ) → p ≡ skip bs 0 → Way bs start p 0
  way-first p e = subst (λ x. Way bs start x 0) (sym e) way-start

  header-open : (ks : List Mark) → OpenState (header ks)
  header-open ks gs e = cc

  name-open : (es : List Equation) → OpenState (name es)
  name-open es gs e = cc

  equals-open : (es : List Equation) (a : Atom) → OpenState (equals es a)
  equals-open es a gs e = cc

  -- another word stands for a mark that is due
  pub header-missing : {q : ℕ} {r : Refusal} (k : Mark) (ks : List Mark) → Way bs (header (k ∷ ks)) q 0 → Missing bs q k r → Refused bs r
  header-missing k ks v h = way-missing k v (header-open (k ∷ ks)) (λ w i. ap (λ b. cond b (Some (after_header ks)) None) i) h

  pub equals-missing : {q : ℕ} {r : Refusal} (es : List Equation) (a : Atom) → Way bs (equals es a) q 0 → Missing bs q Equals r → Refused bs r
  equals-missing es a v h = way-missing Equals v (equals-open es a) (λ w i. ap (λ b. cond b (Some (inside es a (due [] 1))) None) i) h

  -- the left side of an equation
  pub head-way : {q q' : ℕ} (es : List Equation) (a : Atom) → Way bs (name es) q 0 → (e : ℕ) × (scan bs q ≡ Ok (Some (a_word (word.Atom a) e))) × (q' ≡ skip bs e) × (nameable a ≡ true) → Way bs (equals es a) q' 0
  head-way {q} {q'} es a v k =
      let w : Way bs (equals es a) (skip bs k.0) 0 = way_step v k.1 (ap (λ b. cond b (Some (equals es a)) None) k.3) (omega arith) in
      subst (λ x. Way bs (equals es a) x 0) (sym k.2) w

  pub head-missing : {q : ℕ} {r : Refusal} (es : List Equation) → Way bs (name es) q 0 → Turned bs q (λ w. (gs : List Equation) → begin_equation gs w ≡ None) r → Refused bs r
  head-missing es v (none h) = way-halt v (name-open es) h
  head-missing es v (wrong_word h t) = way-refused v h (t es)

  -- what follows an equation
  pub equation-end : (p o q l : ℕ) (es : List Equation) (a : Atom) → Way bs (inside es a (due [] 1)) p 0 → (x : Expression bs 1 p 0 o l) → Whole bs 1 o l → (r : Result Bool Refusal) → AnotherRead bs o q r → EquationRead bs q r
  equation-end p o q l es a v x n (Ok true) k =
      record { read = es ++ record { head = a; tree = x.tree } ∷ []; way = mark-way Semicolon (way-tree es a v x) k (tree-step es a x n (word.Mark Semicolon) k.1) refl (omega arith) }
  equation-end p o q l es a v x n (Ok false) k =
      record { read = es ++ record { head = a; tree = x.tree } ∷ []; way = mark-way End (way-tree es a v x) k (tree-step es a x n (word.Mark End) k.1) refl (omega arith) }
  equation-end p o q l es a v x n (Err r) (none h) = way-halt (way-tree es a v x) (inside-is-open es a _) h
  equation-end p o q l es a v x n (Err r) (wrong_word {w = w} h t) = way-refused (way-tree es a v x) h (tree-step es a x n w h ∙ no_end w t.0 t.1)
    where
      no_end : (w : Token) → is Semicolon w ≡ false → is End w ≡ false → end_equation es a (Some x.tree) w ≡ None
      no_end w i j =
          let done = es ++ record { head = a; tree = x.tree } ∷ [] in
          ap (λ b. cond b (Some (name done)) (cond (is End w) (Some (ended done)) None)) i ∙ ap (λ b. cond b (Some (ended done)) None) j

  -- the end of the text
  pub end_refused : {q e : ℕ} {w : Token} (es : List Equation) → Way bs (ended es) q 0 → scan bs q ≡ Ok (Some (a_word w e)) → Refused bs (Unexpected q)
  end_refused es v h = way-refused v h refl

  pub header-end : {A : Type 0} (p q : ℕ) → Way bs (header (Where ∷ [])) p 0 → (r : Result A Refusal) → Marked bs p q Where r → HeaderRead bs q r
  header-end p q v (Ok u) k = record { read = []; way = mark-way Where v k refl refl (omega arith) }
  header-end p q v (Err r) k = header-missing Where [] v k

pub moved-another : (bs bs' : List ℕ) (p q : ℕ) (r : Result Bool Refusal) → bs' ≡ bs → AnotherRead bs' p q r → AnotherRead bs p q r
moved-another bs bs' p q r e h = subst (λ b. AnotherRead b p q r) e h

pub moved-mark : {A : Type 0} (bs bs' : List ℕ) (p q : ℕ) (m : Mark) (r : Result A Refusal) → bs' ≡ bs → Marked bs' p q m r → Marked bs p q m r
moved-mark bs bs' p q m r e h = subst (λ b. Marked b p q m r) e h

pub moved-refused : {bs bs' : List ℕ} {r : Refusal} → bs' ≡ bs → Refused bs' r → Refused bs r
moved-refused {r = r} e h = subst (λ b. Refused b r) e h
