-- The tokens of plain CSS as the grammar sees them.
use Rattle.std.specs.Prelude.{ℕ, ◌+◌, Bool, List, [], ◌∷◌, ◌++◌, Option, Some, None, slice_range, if◌then◌else◌}
use Rattle.sw_text.specs.Places.{pos_at}
use Rattle.sw_parse_terminals.specs.declared.terminal.Terminal.{Terminal}
use Rattle.sw_parse_terminals.specs.declared.lexeme.Lexeme.{Lexeme}
use Rattle.sw_tokens.specs.declared.token.Token.{Token}
use Rattle.sw_parse_css.specs.declared.state.Sort.{Sort}
use Rattle.sw_parse_css.specs.declared.state.State.{State}
use Rattle.sw_parse_css.specs.declared.pass.Reading.{Reading}
use Rattle.sw_parse_css.specs.Sorts.{sort_of}
use Rattle.sw_parse_css.specs.Places.{terminal_of, is_white, after, past_white, beginning}

abbrev pub optional : Option Lexeme → List Lexeme
optional None = []
optional (Some lexeme) = lexeme ∷ []

module _ (bytes : List ℕ) where
  abbrev pub sort_in : Token → Sort
  sort_in token = sort_of token.kind (slice_range bytes token.from token.to)

  -- a token at a place as one of a terminal
  abbrev pub lexeme_of : ℕ → Token → Bool → Terminal → Lexeme
  lexeme_of at token commented terminal = record {
    terminal = terminal;
    from = token.from;
    to = token.to;
    start = pos_at bytes token.from;
    end = pos_at bytes token.to;
    token = at;
    commented = commented;
  }

  abbrev pub kept : State → ℕ → Token → Terminal → Reading
  kept state at token terminal =
      record { lexeme = Some (lexeme_of at token state.commented terminal); state = after state terminal }

  -- the token at a place: what the grammar sees of it, and the state behind it
  unfoldable pub read : State → ℕ → Token → Reading
  read state at token =
      if is_white state (sort_in token) then record { lexeme = None; state = past_white state }
      else kept state at token (terminal_of state token.spaced (sort_in token))

  -- these tokens, from a place on, without comments that are white space
  abbrev pub lexemes_from : State → ℕ → List Token → List Lexeme
  lexemes_from state at [] = []
  lexemes_from state at (token ∷ rest) =
      optional (read state at token).lexeme ++ lexemes_from (read state at token).state (at + 1) rest

-- what the grammar sees of the tokens of a text
unfoldable pub lexemes_of : List ℕ → List Token → List Lexeme
lexemes_of bytes tokens = lexemes_from bytes beginning 0 tokens
