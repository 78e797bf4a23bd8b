-- The machine decides the grammar. Assumes nothing.
use Rattle.std.proofs.Common.{◌≡◌, List, [], ◌∷◌, Some, None, Option, refl, ap, ◌∙◌}
use Rattle.lexer.specs.declared.token.Token.{Token}
use Rattle.grammar.specs.Grammar.{Equation, Text, Viable}
use Rattle.grammar.specs.Machine.{State, ended, run, start}
use Rattle.grammar.specs.Decision.{Decides}
use Rattle.grammar.proofs.Texts.{Ended, Reached, ran, viable}
use Rattle.grammar.proofs.Complete.{accepts, not-viable}

start-reached : Reached [] start
start-reached = refl

-- it has a state exactly while some text of the grammar begins with the words
pub lives-viable : (ws : List Token) (s : State) → run start ws ≡ Some s → Viable ws
lives-viable ws s e = viable ws s (ran ws [] start s e start-reached)

pub viable-lives : (ws : List Token) → Viable ws → (s : State) × (run start ws ≡ Some s)
viable-lives ws v = go (run start ws) refl
  where
    go : (o : Option State) → run start ws ≡ o → (s : State) × (run start ws ≡ Some s)
    go None e = absurd (not-viable ws e v)
    go (Some s) e = (s, e)

-- and it has ended with the equations exactly where the words are a text with these equations
pub ends-text : (ws : List Token) (es : List Equation) → run start ws ≡ Some (ended es) → Ended ws es
ends-text ws es e = ran ws [] start (ended es) e start-reached

pub text-ends : (ws : List Token) (t : Text ws) → run start ws ≡ Some (ended (t.first ∷ t.others))
text-ends ws t = ap (run start) t.written ∙ accepts t.first t.others t.formed.0 t.formed.1

pub decides : Decides
decides = record {
  alive_viable = lives-viable;
  viable_alive = viable-lives;
  ended_text = λ ws es e. let t = ends-text ws es e in (record { first = t.first; others = t.others; formed = t.formed; written = t.written }, t.same);
  text_ended = text-ends;
}
