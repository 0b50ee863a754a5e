-- How a lexeme lies in a sheet's text.
use Rattle.std.specs.Prelude.{◌≡◌, ℕ, List, ◌≤◌}
use Rattle.std.specs.Str.{IsCharBoundary}
use Rattle.sw_text.specs.Places.{pos_at}
use Rattle.sw_parse_terminals.specs.declared.lexeme.Lexeme.{Lexeme}

-- the text may be cut before and behind the token, and its places are those of its ends
pub record LexemeLies (bytes : List ℕ) (lexeme : Lexeme) : Type 0 where
  pub from : IsCharBoundary bytes lexeme.from
  pub to : IsCharBoundary bytes lexeme.to
  pub start : lexeme.start ≡ pos_at bytes lexeme.from
  pub end : lexeme.end ≡ pos_at bytes lexeme.to
