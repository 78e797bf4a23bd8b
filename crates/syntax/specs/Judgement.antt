-- When a text is accepted, and where it is refused.
use Rattle.std.specs.Prelude.{◌≡◌, ℕ, ◌<◌, ◌≤◌, Bool, true, false, List, [], ◌∷◌, ◌++◌, length, Some, Ok, Err, Result, None}
use Rattle.lexer.specs.declared.token.Mark.TheVariants.{Open}
use Rattle.lexer.specs.declared.token.Token.{Token}
use Rattle.lexer.specs.declared.token.Token.TheVariants as word
use Rattle.syntax.specs.declared.refusal.Refusal.{Refusal}
use Rattle.syntax.specs.declared.refusal.Refusal.TheVariants.{TooLong, NoWord, Unexpected, TooDeep}
use Rattle.grammar.specs.Grammar.{Equation, Text, Viable}
use Rattle.grammar.specs.Machine.{State, name, ended, run, start}
use Rattle.lexer.specs.Lexer.{skip, scan, a_word, not_a_word}
use Rattle.syntax.specs.Reading.{limit, Lies}

-- The number of a refusal.
abbrev pub number : Refusal → ℕ
number TooLong = 1
number (NoWord p) = 2
number (Unexpected p) = 3
number (TooDeep p) = 4

-- The byte of the text that a refusal is about.
abbrev pub place : Refusal → ℕ
place TooLong = 0
place (NoWord p) = p
place (Unexpected p) = p
place (TooDeep p) = p

-- What is wrong at the place q, after the words ws, where c brackets are open:
-- no word; the end, where ws is no text; a word that no text has after ws; a bracket too deep.
pub data Wrong (bs : List ℕ) (ws : List Token) (q c : ℕ) : Refusal → Type 0 where
  no_word : scan bs q ≡ Err not_a_word → Wrong bs ws q c (NoWord q)
  too_short : scan bs q ≡ Ok None → (Text ws → ⊥) → Wrong bs ws q c (Unexpected q)
  no_text : {w : Token} {e : ℕ} → scan bs q ≡ Ok (Some (a_word w e)) → (Viable (ws ++ w ∷ []) → ⊥) → Wrong bs ws q c (Unexpected q)
  too_deep : {e : ℕ} → scan bs q ≡ Ok (Some (a_word (word.Mark Open) e)) → Viable (ws ++ word.Mark Open ∷ []) → c ≡ limit → Wrong bs ws q c (TooDeep q)

-- The words up to a place begin a text, and there something is wrong.
pub record Refused (bs : List ℕ) (r : Refusal) : Type 0 where
  pub words : List Token
  pub place : ℕ
  pub depth : ℕ
  pub lies : Lies bs (skip bs 0) 0 words place depth
  pub viable : Viable words
  pub wrong : Wrong bs words place depth r

-- All words up to the end make a text.
pub record Accepted (bs : List ℕ) : Type 0 where
  pub words : List Token
  pub place : ℕ
  pub depth : ℕ
  pub lies : Lies bs (skip bs 0) 0 words place depth
  pub ends : scan bs place ≡ Ok None
  pub text : Text words

-- A text has at most 4,096 bytes.
abbrev pub longest_text : ℕ
longest_text = 4096

-- The bytes are too many, or else the words go wrong at a place.
pub data Rejected (bs : List ℕ) : Refusal → Type 0 where
  too_long : longest_text < length bs → Rejected bs TooLong
  at_word : {r : Refusal} → length bs ≤ longest_text → Refused bs r → Rejected bs r

-- What the reader says of the bytes.
abbrev pub Judged : {A : Type 0} → List ℕ → Result A Refusal → Type 0
Judged bs (Ok u) = (length bs ≤ longest_text) × Accepted bs
Judged bs (Err r) = Rejected bs r

-- The words from the first place up to q, where c brackets are open, lead the machine to the state y.
pub record Way (bs : List ℕ) (y : State) (q c : ℕ) : Type 0 where
  pub by : List Token
  pub lies : Lies bs (skip bs 0) 0 by q c
  pub goes : run start by ≡ Some y

-- Another equation is due at q, after some.
pub record Due (bs : List ℕ) (q : ℕ) : Type 0 where
  pub read : List Equation
  pub way : Way bs (name read) q 0

-- The words up to q are a whole text.
pub record Ended (bs : List ℕ) (q : ℕ) : Type 0 where
  pub read : List Equation
  pub way : Way bs (ended read) q 0

-- The header was read: the first equation is due.
abbrev pub HeaderRead : {A : Type 0} → List ℕ → ℕ → Result A Refusal → Type 0
HeaderRead bs q (Ok u) = Due bs q
HeaderRead bs q (Err r) = Refused bs r

-- An equation was read, and the semicolon before another or `end`.
abbrev pub EquationRead : List ℕ → ℕ → Result Bool Refusal → Type 0
EquationRead bs q (Ok true) = Due bs q
EquationRead bs q (Ok false) = Ended bs q
EquationRead bs q (Err r) = Refused bs r

-- All equations were read, and `end`.
abbrev pub EquationsRead : {A : Type 0} → List ℕ → ℕ → Result A Refusal → Type 0
EquationsRead bs q (Ok u) = Ended bs q
EquationsRead bs q (Err r) = Refused bs r

-- Nothing follows the text, or something is refused.
abbrev pub FinishRead : {A : Type 0} → List ℕ → Result A Refusal → Type 0
FinishRead bs (Ok u) = Accepted bs
FinishRead bs (Err r) = Refused bs r

-- At most one answer fits the bytes.
pub record Single : Type 0 where
  pub one_refusal : (bs : List ℕ) (r s : Refusal) → Rejected bs r → Rejected bs s → r ≡ s
  pub not_both : (bs : List ℕ) (r : Refusal) → length bs ≤ longest_text → Accepted bs → Rejected bs r → ⊥
