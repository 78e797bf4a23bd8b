-- What lies between two places of a text, and what the reader answers of it.
use Rattle.std.specs.Prelude.{◌≡◌, ℕ, ◌+◌, ◌-◌, ◌<◌, ◌≤◌, Bool, true, false, List, [], ◌∷◌, ◌++◌, Some, None, Ok, Err, Option, Result}
use Rattle.lexer.specs.declared.token.Atom.{Atom}
use Rattle.lexer.specs.declared.token.Infix.{Infix}
use Rattle.lexer.specs.declared.token.Mark.{Mark}
use Rattle.lexer.specs.declared.token.Mark.TheVariants.{Compute, Output, Where, End, If, Then, Else, Open, Close, Equals, Semicolon}
use Rattle.lexer.specs.declared.token.Token.{Token}
use Rattle.lexer.specs.declared.token.Token.TheVariants as word
use Rattle.lexer.specs.declared.lexer.Word.{Word}
use Rattle.syntax.specs.declared.reader.Part.{Part}
use Rattle.syntax.specs.declared.refusal.Refusal.{Refusal}
use Rattle.syntax.specs.declared.refusal.Refusal.TheVariants.{NoWord, Unexpected, TooDeep}
use Rattle.grammar.specs.Grammar.{Tree, level_of, Fits, words, Equation}
use Rattle.grammar.specs.Machine.{Frame, Spot, due, takes, is, nameable, begin_equation, State, inside, run, Stops}
use Rattle.lexer.specs.Lexer.{skip, scan, a_word, not_a_word}

-- One bracket more or fewer is open after the mark.
abbrev pub opened_by : Mark → ℕ → ℕ
opened_by Compute d = d
opened_by Output d = d
opened_by Where d = d
opened_by End d = d
opened_by If d = d
opened_by Then d = d
opened_by Else d = d
opened_by Open d = d + 1
opened_by Close d = d - 1
opened_by Equals d = d
opened_by Semicolon d = d

-- How many brackets are open after a word.
abbrev pub opened : Token → ℕ → ℕ
opened (word.Atom a) d = d
opened (word.Infix op) d = d
opened word.First d = d
opened word.Next d = d
opened word.Not d = d
opened (word.Mark m) d = opened_by m d

-- At most sixteen brackets are open at once.
abbrev pub limit : ℕ
limit = 16

-- The words ws lie from the place p, where d brackets are open, up to the place q, where c are.
abbrev pub Lies : List ℕ → ℕ → ℕ → List Token → ℕ → ℕ → Type 0
Lies bs p d [] q c = (p ≡ q) × (d ≡ c)
Lies bs p d (w ∷ ws) q c = (e : ℕ) × (scan bs p ≡ Ok (Some (a_word w e))) × (opened w d ≤ limit) × Lies bs (skip bs e) (opened w d) ws q c

-- The word is no name, channel, literal, truth word or mark: if it begins an expression, it is an operator.
abbrev pub Begins : Token → Type 0
Begins (word.Atom a) = ⊥
Begins (word.Infix op) = Unit {0}
Begins word.First = Unit {0}
Begins word.Next = Unit {0}
Begins word.Not = Unit {0}
Begins (word.Mark m) = ⊥

-- No word is read at p.
pub data Halt (bs : List ℕ) (p : ℕ) : Refusal → Type 0 where
  bad : scan bs p ≡ Err not_a_word → Halt bs p (NoWord p)
  over : scan bs p ≡ Ok None → Halt bs p (Unexpected p)

-- The word w stands at p, and the next one at q.
abbrev pub Passed : List ℕ → ℕ → ℕ → Token → Type 0
Passed bs p q w = (e : ℕ) × (scan bs p ≡ Ok (Some (a_word w e))) × (q ≡ skip bs e)

-- What stands at p was looked at: a word, the text's end, or what is no word.
abbrev pub Peeked : List ℕ → ℕ → Result (Option Word) Refusal → Type 0
Peeked bs p (Ok found) = scan bs p ≡ Ok found
Peeked bs p (Err r) = (r ≡ NoWord p) × (scan bs p ≡ Err not_a_word)

-- A word is read from p on, and the next one stands at q.
abbrev pub Took : List ℕ → ℕ → ℕ → Result Token Refusal → Type 0
Took bs p q (Ok w) = Passed bs p q w
Took bs p q (Err r) = Halt bs p r

-- Another word than the mark stands at p, or none.
pub data Missing (bs : List ℕ) (p : ℕ) (m : Mark) : Refusal → Type 0 where
  halted : {r : Refusal} → Halt bs p r → Missing bs p m r
  other_word : {w : Token} {e : ℕ} → scan bs p ≡ Ok (Some (a_word w e)) → is m w ≡ false → Missing bs p m (Unexpected p)

-- The mark was read, or another word stands in its place.
abbrev pub Marked : {A : Type 0} → List ℕ → ℕ → ℕ → Mark → Result A Refusal → Type 0
Marked bs p q m (Ok u) = Passed bs p q (word.Mark m)
Marked bs p q m (Err r) = Missing bs p m r

-- An expression of level n, with its own level l, lies from p to q, and the next word goes into no part of it.
pub record Expression (bs : List ℕ) (n p d q l : ℕ) : Type 0 where
  pub tree : Tree
  pub fits : Fits n tree
  pub lies : Lies bs p d (words tree) q d
  pub level : level_of tree ≡ l
  pub stops : {w : Token} {e : ℕ} → scan bs q ≡ Ok (Some (a_word w e)) → Stops tree w

-- An expression of level n with its own level l does not go on at q.
pub record Whole (bs : List ℕ) (n q l : ℕ) : Type 0 where
  pub none : (w : Token) (e : ℕ) → scan bs q ≡ Ok (Some (a_word w e)) → takes n l w ≡ None

-- Why nothing goes on at q after the words ws, where c brackets are open; `from` runs the machine.
pub data Stuck (bs : List ℕ) (from : List Token → Option State) (ws : List Token) (q c : ℕ) : Refusal → Type 0 where
  no_word : {r : Refusal} → Halt bs q r → Stuck bs from ws q c r
  no_such : {w : Token} {e : ℕ} → scan bs q ≡ Ok (Some (a_word w e)) → from (ws ++ w ∷ []) ≡ None → Stuck bs from ws q c (Unexpected q)
  too_deep : {e : ℕ} {s : State} → scan bs q ≡ Ok (Some (a_word (word.Mark Open) e)) → from (ws ++ word.Mark Open ∷ []) ≡ Some s → c ≡ limit → Stuck bs from ws q c (TooDeep q)

-- From the place p on, in every context, words are read and then r is the refusal.
pub record Broken (bs : List ℕ) (at : List Frame → Spot) (p d : ℕ) (r : Refusal) : Type 0 where
  pub read : List Token
  pub place : ℕ
  pub depth : ℕ
  pub lies : Lies bs p d read place depth
  pub alive : (es : List Equation) (a : Atom) (fs : List Frame) → (s : Spot) × (run (inside es a (at fs)) read ≡ Some (inside es a s))
  pub stuck : (es : List Equation) (a : Atom) (fs : List Frame) → Stuck bs (run (inside es a (at fs))) read place depth r

-- The first part of an expression of level n was read.
abbrev pub OperandRead : List ℕ → ℕ → ℕ → ℕ → ℕ → Result Part Refusal → Type 0
OperandRead bs n p d q (Ok x) = Expression bs n p d q x.level
OperandRead bs n p d q (Err r) = Broken bs (λ fs. due fs n) p d r

-- An expression of level n was read, as far as it goes.
abbrev pub ExpressionRead : List ℕ → ℕ → ℕ → ℕ → ℕ → Result Part Refusal → Type 0
ExpressionRead bs n p d q (Ok x) = Expression bs n p d q x.level × Whole bs n q x.level
ExpressionRead bs n p d q (Err r) = Broken bs (λ fs. due fs n) p d r

-- The next operator of an expression of level n whose left side has the level l.
abbrev pub InfixRead : List ℕ → ℕ → ℕ → ℕ → ℕ → Result (Option Infix) Refusal → Type 0
InfixRead bs n l p q (Ok None) = (p ≡ q) × Whole bs n p l
InfixRead bs n l p q (Ok (Some op)) = (e : ℕ) × (scan bs p ≡ Ok (Some (a_word (word.Infix op) e))) × (q ≡ skip bs e) × (takes n l (word.Infix op) ≡ Some op) × (p < q)
InfixRead bs n l p q (Err r) = (r ≡ NoWord p) × (scan bs p ≡ Err not_a_word)

-- The reader moved on.
abbrev pub Moved : {A : Type 0} → ℕ → ℕ → ℕ → Result A Refusal → Type 0
Moved long p q (Ok x) = (p < q) × (q ≤ long)
Moved long p q (Err r) = Unit {0}

-- No word stands at p, or one that the test turns down.
pub data Turned (bs : List ℕ) (p : ℕ) (test : Token → Type 0) : Refusal → Type 0 where
  none : {r : Refusal} → Halt bs p r → Turned bs p test r
  wrong : {w : Token} {e : ℕ} → scan bs p ≡ Ok (Some (a_word w e)) → test w → Turned bs p test (Unexpected p)

-- A name or a channel was read.
abbrev pub HeadRead : List ℕ → ℕ → ℕ → Result Atom Refusal → Type 0
HeadRead bs p q (Ok a) = (e : ℕ) × (scan bs p ≡ Ok (Some (a_word (word.Atom a) e))) × (q ≡ skip bs e) × (nameable a ≡ true)
HeadRead bs p q (Err r) = Turned bs p (λ w. (es : List Equation) → begin_equation es w ≡ None) r

-- A semicolon was read, or `end`.
abbrev pub AnotherRead : List ℕ → ℕ → ℕ → Result Bool Refusal → Type 0
AnotherRead bs p q (Ok true) = Passed bs p q (word.Mark Semicolon)
AnotherRead bs p q (Ok false) = Passed bs p q (word.Mark End)
AnotherRead bs p q (Err r) = Turned bs p (λ w. (is Semicolon w ≡ false) × (is End w ≡ false)) r
