-- What the machine says of the texts of the language.
use Rattle.std.specs.Prelude.{◌≡◌, List, ◌∷◌, Some}
use Rattle.lexer.specs.declared.token.Token.{Token}
use Rattle.grammar.specs.Grammar.{Equation, Text, Viable}
use Rattle.grammar.specs.Machine.{State, ended, run, start}

-- The machine decides the grammar: it is alive exactly while some text begins with the words,
-- and has ended exactly where they are a text, with the same equations.
pub record Decides : Type 0 where
  pub alive_viable : (ws : List Token) (s : State) → run start ws ≡ Some s → Viable ws
  pub viable_alive : (ws : List Token) → Viable ws → (s : State) × (run start ws ≡ Some s)
  pub ended_text : (ws : List Token) (es : List Equation) → run start ws ≡ Some (ended es) → (t : Text ws) × (t.first ∷ t.others ≡ es)
  pub text_ended : (ws : List Token) (t : Text ws) → run start ws ≡ Some (ended (t.first ∷ t.others))
