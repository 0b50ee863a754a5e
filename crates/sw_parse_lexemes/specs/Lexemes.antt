-- The tokens of a text as the grammar sees them.
use Rattle.std.specs.Prelude.{ℕ, ◌+◌, nat_lt, Bool, true, false, ◌||◌, if◌then◌else◌, List, [], ◌∷◌, ◌++◌, drop, Option, Some, None}
use Rattle.sw_parse_terminals.specs.declared.terminal.Terminal.{Terminal}
use Rattle.sw_parse_terminals.specs.declared.terminal.Terminal.TheVariants as terminals
use Rattle.sw_parse_terminals.specs.declared.lexeme.Lexeme.{Lexeme}
use Rattle.sw_tokens.specs.declared.token.Token.{Token}
use Rattle.sw_parse_lexemes.specs.declared.plain.Plain.{Plain}
use Rattle.sw_parse_lexemes.specs.declared.state.Mode.{Mode}
use Rattle.sw_parse_lexemes.specs.declared.state.Mode.TheVariants as modes
use Rattle.sw_parse_lexemes.specs.declared.state.Comments.TheVariants as comment
use Rattle.sw_parse_lexemes.specs.declared.state.State.{State}
use Rattle.sw_parse_lexemes.specs.Plains.{plains_of}
use Rattle.sw_parse_lexemes.specs.Terminals.{terminal_of}
use Rattle.sw_parse_lexemes.specs.Steps.{placed, is_white, past_white, after}

-- what comes of a token: what the grammar sees of it, and the state behind it
pub record Reading : Type 0 where
  pub lexeme : Option Lexeme
  pub state : State

-- a token at a place as one of a terminal
abbrev pub lexeme_of : Plain → ℕ → Bool → Terminal → Lexeme
lexeme_of plain at commented terminal = record {
  terminal = terminal;
  from = plain.from;
  to = plain.to;
  start = plain.start;
  end = plain.end;
  token = at;
  commented = commented || plain.silent;
}

abbrev pub skipped : State → Plain → Reading
skipped state plain = record { lexeme = None; state = past_white state plain.sort }

abbrev pub kept : State → ℕ → Plain → Terminal → Reading
kept state at plain terminal =
    record { lexeme = Some (lexeme_of plain at state.commented terminal); state = after state terminal }

abbrev pub read_placed : State → List Plain → ℕ → Plain → Reading
read_placed state plains at plain =
    if is_white state plains at then skipped state plain else kept state at plain (terminal_of state plains at)

-- the token at a place: what the grammar sees of it, and the state behind it
unfoldable pub read : State → List Plain → ℕ → Plain → Reading
read state plains at plain =
    if nat_lt 0 state.ignored then skipped state plain else read_placed (placed state plains at) plains at plain

abbrev pub optional : Option Lexeme → List Lexeme
optional None = []
optional (Some lexeme) = lexeme ∷ []

-- these tokens, from a place on, as the grammar sees them
abbrev pub lexemes_from : List Plain → State → ℕ → List Plain → List Lexeme
lexemes_from plains state at [] = []
lexemes_from plains state at (plain ∷ rest) =
    optional (read state plains at plain).lexeme ++ lexemes_from plains (read state plains at plain).state (at + 1) rest

-- nothing is read yet, and a statement may begin
abbrev pub beginning : State
beginning = record {
  frames = [];
  mode = modes.Expression;
  start = true;
  word = false;
  before = terminals.Semicolon;
  before_that = terminals.Semicolon;
  comments = comment.Unknown;
  ignored = 0;
  commented = false;
}

-- a value may begin, that is read in a mode
abbrev pub before_value : Mode → State
before_value mode = record beginning { mode = mode; start = false }

-- the tokens from a place on, of which this is known
abbrev pub lexemes_by : List Plain → State → ℕ → List Lexeme
lexemes_by plains state at = lexemes_from plains state at (drop at plains)

-- what the grammar sees of the tokens of a text
unfoldable pub lexemes_of : List ℕ → List Token → List Lexeme
lexemes_of bytes tokens = lexemes_by (plains_of bytes tokens) beginning 0

-- what it sees of those from a place on, where a value is read from there
unfoldable pub value_lexemes_of : List ℕ → List Token → Mode → ℕ → List Lexeme
value_lexemes_of bytes tokens mode at = lexemes_by (plains_of bytes tokens) (before_value mode) at
