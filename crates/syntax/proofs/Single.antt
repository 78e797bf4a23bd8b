-- At most one answer fits the bytes: words that lie from one place on are each other's beginnings. Assumes nothing.
use Rattle.std.proofs.Common.{◌≡◌, ℕ, ◌+◌, ◌≤◌, List, [], ◌∷◌, ◌++◌, length, sym, refl, ap, ◌∙◌, subst, append_assoc, append-nil, arith, Ok, Some, None}
use Rattle.lexer.specs.declared.token.Token.{Token}
use Rattle.syntax.specs.declared.refusal.Refusal.{Refusal}
use Rattle.grammar.specs.Grammar.{Text, Viable}
use Rattle.lexer.specs.Lexer.{skip, scan, a_word}
use Rattle.syntax.specs.Reading.{opened, limit, Lies}
use Rattle.syntax.specs.Judgement.{Wrong, no_word, too_short, no_text, too_deep, Refused, Accepted, longest_text, Rejected, too_long, at_word, Single}
use Rattle.syntax.proofs.Steps.{same_word}

module _ (bs : List ℕ) where
  -- vs goes on after ws, which end at q, with a word there
  record On (ws : List Token) (q c : ℕ) (vs : List Token) : Type 0 where
    pub next : Token
    pub rest : List Token
    pub end : ℕ
    pub is : vs ≡ ws ++ next ∷ rest
    pub stands : scan bs q ≡ Ok (Some (a_word next end))
    pub fits : opened next c ≤ limit

  data Compared (ws : List Token) (q c : ℕ) (vs : List Token) (p d : ℕ) : Type 0 where
    same : ws ≡ vs → q ≡ p → c ≡ d → Compared ws q c vs p d
    shorter : On ws q c vs → Compared ws q c vs p d
    longer : On vs p d ws → Compared ws q c vs p d

  on-more : {ws vs : List Token} {q c : ℕ} (w v : Token) → w ≡ v → On ws q c vs → On (w ∷ ws) q c (v ∷ vs)
  on-more {ws} {vs} w v e o = record { next = o.next; rest = o.rest; end = o.end; is = ap (λ x. x ∷ vs) (sym e) ∙ ap (λ x. w ∷ x) o.is; stands = o.stands; fits = o.fits }

  more : {ws vs : List Token} {q c p d : ℕ} (w v : Token) → w ≡ v → Compared ws q c vs p d → Compared (w ∷ ws) q c (v ∷ vs) p d
  more {ws} {vs} w v e (same f g h) = same (ap (λ x. x ∷ ws) e ∙ ap (λ x. v ∷ x) f) g h
  more w v e (shorter o) = shorter (on-more w v e o)
  more w v e (longer o) = longer (on-more v w (sym e) o)

  onto : (v : Token) (vs : List Token) (s d q c p e : ℕ) → s ≡ q → d ≡ c → Lies bs s d (v ∷ vs) p e → On [] q c (v ∷ vs)
  onto v vs s d q c p e f g l = record {
    next = v;
    rest = vs;
    end = l.0;
    is = refl;
    stands = subst (λ x. scan bs x ≡ Ok (Some (a_word v l.0))) f l.1;
    fits = subst (λ x. opened v x ≤ limit) g l.2;
  }

  compare : (ws vs : List Token) (s d q c p e : ℕ) → Lies bs s d ws q c → Lies bs s d vs p e → Compared ws q c vs p e
  compare [] [] s d q c p e l m = same refl (sym l.0 ∙ m.0) (sym l.1 ∙ m.1)
  compare [] (v ∷ vs) s d q c p e l m = shorter (onto v vs s d q c p e l.0 l.1 m)
  compare (w ∷ ws) [] s d q c p e l m = longer (onto w ws s d p e q c m.0 m.1 l)
  compare (w ∷ ws) (v ∷ vs) s d q c p e l m =
      let t = same_word l.1 m.1 in
      let i = t.0 in
      let j = t.1 in
      let n : Lies bs (skip bs l.0) (opened w d) vs p e = subst (λ x. Lies bs (skip bs x) (opened w d) vs p e) (sym j) (subst (λ x. Lies bs (skip bs m.0) (opened x d) vs p e) (sym i) m.3) in
      more w v i (compare ws vs (skip bs l.0) (opened w d) q c p e l.3 n)

  shorter-viable : (ws vs rest : List Token) (w : Token) → vs ≡ ws ++ w ∷ rest → Viable vs → Viable (ws ++ w ∷ [])
  shorter-viable ws vs rest w e v =
      (rest ++ v.0, subst (λ x. Text x) (ap (λ x. x ++ v.0) e ∙ append_assoc ws (w ∷ rest) v.0 ∙ sym (append_assoc ws (w ∷ []) (rest ++ v.0))) v.1)

  -- no viable words go on past a place where something is wrong
  stops : (ws vs : List Token) (q c : ℕ) {r : Refusal} → Wrong bs ws q c r → Viable vs → On ws q c vs → ⊥
  stops ws vs q c (no_word h) v o = let f = o.stands in cc
  stops ws vs q c (too_short h n) v o = let f = o.stands in cc
  stops ws vs q c (no_text {w} {e} h n) v o =
      let i = (same_word o.stands h).0 in
      n (shorter-viable ws vs o.rest w (o.is ∙ ap (λ x. ws ++ x ∷ o.rest) i) v)
  stops ws vs q c (too_deep {e} h n d) v o =
      let i = (same_word o.stands h).0 in
      let f : c + 1 ≤ 16 = subst (λ x. opened x c ≤ limit) i o.fits in
      omega arith

  once : (ws : List Token) (q c : ℕ) {r s : Refusal} → Wrong bs ws q c r → Wrong bs ws q c s → r ≡ s
  once ws q c (no_word h) (no_word k) = refl
  once ws q c (no_word h) (too_short k n) = cc
  once ws q c (no_word h) (no_text k n) = cc
  once ws q c (no_word h) (too_deep k n d) = cc
  once ws q c (too_short h m) (no_word k) = cc
  once ws q c (too_short h m) (too_short k n) = refl
  once ws q c (too_short h m) (no_text k n) = refl
  once ws q c (too_short h m) (too_deep k n d) = cc
  once ws q c (no_text h m) (no_word k) = cc
  once ws q c (no_text h m) (too_short k n) = refl
  once ws q c (no_text h m) (no_text k n) = refl
  once ws q c (no_text {w} h m) (too_deep k n d) = let i = (same_word k h).0 in absurd (m (subst (λ x. Viable (ws ++ x ∷ [])) i n))
  once ws q c (too_deep h m d) (no_word k) = cc
  once ws q c (too_deep h m d) (too_short k n) = cc
  once ws q c (too_deep h m d) (no_text {w} k n) = let i = (same_word h k).0 in absurd (n (subst (λ x. Viable (ws ++ x ∷ [])) i m))
  once ws q c (too_deep h m d) (too_deep k n e) = refl

  moved-wrong : (ws vs : List Token) (q p c d : ℕ) (r : Refusal) → ws ≡ vs → q ≡ p → c ≡ d → Wrong bs vs p d r → Wrong bs ws q c r
  moved-wrong ws vs q p c d r e f g h = subst (λ x. Wrong bs x q c r) (sym e) (subst (λ x. Wrong bs vs x c r) (sym f) (subst (λ x. Wrong bs vs p x r) (sym g) h))

  refused-once : (r s : Refusal) → Refused bs r → Refused bs s → r ≡ s
  refused-once r s a b =
      elim (compare a.words b.words (skip bs 0) 0 a.place a.depth b.place b.depth a.lies b.lies) [
        | same e f g ↦ once a.words a.place a.depth a.wrong (moved-wrong a.words b.words a.place b.place a.depth b.depth s e f g b.wrong)
        | shorter o ↦ absurd (stops a.words b.words a.place a.depth a.wrong b.viable o)
        | longer o ↦ absurd (stops b.words a.words b.place b.depth b.wrong a.viable o)
      ]

  right_there : (ws : List Token) (q c : ℕ) {r : Refusal} → scan bs q ≡ Ok None → Text ws → Wrong bs ws q c r → ⊥
  right_there ws q c f t (no_word h) = cc
  right_there ws q c f t (too_short h n) = n t
  right_there ws q c f t (no_text h n) = cc
  right_there ws q c f t (too_deep h n d) = cc

  apart : (r : Refusal) → Accepted bs → Refused bs r → ⊥
  apart r a b =
      elim (compare a.words b.words (skip bs 0) 0 a.place a.depth b.place b.depth a.lies b.lies) [
        | same e f g ↦ right_there a.words a.place a.depth a.ends a.text (moved-wrong a.words b.words a.place b.place a.depth b.depth r e f g b.wrong)
        | shorter o ↦ (let f = o.stands in let g = a.ends in cc)
        | longer o ↦ stops b.words a.words b.place b.depth b.wrong ([], subst (λ x. Text x) (sym (append-nil a.words)) a.text) o
      ]

  rejected-once : (r s : Refusal) → Rejected bs r → Rejected bs s → r ≡ s
  rejected-once r s (too_long h) (too_long k) = refl
  rejected-once r s (too_long h) (at_word k b) = absurd (omega arith)
  rejected-once r s (at_word h a) (too_long k) = absurd (omega arith)
  rejected-once r s (at_word h a) (at_word k b) = refused-once r s a b

  not-rejected : (r : Refusal) → length bs ≤ longest_text → Accepted bs → Rejected bs r → ⊥
  not-rejected r l a (too_long k) = omega arith
  not-rejected r l a (at_word k b) = apart r a b

pub single : Single
single = record { one_refusal = rejected-once; not_both = not-rejected }
