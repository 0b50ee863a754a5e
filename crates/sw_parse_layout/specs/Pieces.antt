-- A walk goes on over white space, and over what SCSS has at a place.
use Rattle.std.specs.Prelude.{ℕ, ◌+◌, ◌-◌, List, [], ◌∷◌, ◌++◌, length, take, slice_get, Option, Some, None, Bool, true, false, ◌&&◌, ◌==◌, if◌then◌else◌, Result, Ok, Err}
use Rattle.sw_tokens.specs.declared.token.TokenKind.{TokenKind}
use Rattle.sw_tokens.specs.declared.token.Token.{Token}
use Rattle.sw_tokens.specs.declared.pieces.Before.{Before}
use Rattle.sw_tokens.specs.declared.pieces.Change.{Change}
use Rattle.sw_tokens.specs.declared.pieces.Piece.{Piece}
use Rattle.sw_tokens.specs.Pieces.{piece}
use Rattle.sw_tokens.specs.Tokens.{top, changed, last_start, before_of, kept_by, is_spaced}
use Rattle.sw_tokens.specs.declared.token.Syntax.TheVariants as syntaxes
use Rattle.sw_tokens.specs.declared.token.TokenKind.TheVariants as kinds
use Rattle.sw_tokens.specs.declared.pieces.Before.TheVariants as befores
use Rattle.sw_parse_layout.specs.declared.sorts.Sort.{Sort}
use Rattle.sw_parse_layout.specs.declared.state.Bracket.{Bracket}
use Rattle.sw_parse_layout.specs.declared.state.Mode.{Mode}
use Rattle.sw_parse_layout.specs.declared.state.Line.{Line}
use Rattle.sw_parse_layout.specs.declared.state.State.{State}
use Rattle.sw_parse_layout.specs.declared.state.Found.{Found}
use Rattle.sw_parse_layout.specs.Sorts.{sorted}
use Rattle.sw_parse_layout.specs.declared.sorts.Sort.TheVariants as sorts
use Rattle.sw_parse_layout.specs.declared.state.Bracket.TheVariants as brackets
use Rattle.sw_parse_layout.specs.declared.state.Mode.TheVariants as modes
use Rattle.sw_parse_layout.specs.Laid.{nothing, refused_at}

-- on to a place; what stood before it is white space
abbrev pub spaced_line : Line → Line
spaced_line line = record line { before = befores.White }

abbrev pub moved : State → ℕ → Found
moved s to =
    record {
      laid = nothing;
      state = record { at = to; mode = s.mode; line = spaced_line s.line; blocks = s.blocks };
    }

-- the statement or the comment ends with the line that ends here
abbrev pub line_over : State → Found
line_over s =
    record {
      laid = nothing;
      state = record { at = s.at + 1; mode = modes.Between; line = spaced_line s.line; blocks = s.blocks };
    }

-- over a loud comment that stands in a statement: a token, if another one follows there
abbrev pub commented_line : Line → ℕ → ℕ → Line
commented_line line from to = record line {
  before = befores.White;
  comments = line.comments ++ kept_by (Some kinds.Comment) from to line.before;
}

abbrev pub passed : State → ℕ → Found
passed s to = record {
  laid = nothing;
  state = record { at = to; mode = s.mode; line = commented_line s.line s.at to; blocks = s.blocks };
}

-- pieces

-- brackets that are open, the innermost last; one that closes nothing counts for nothing
abbrev pub is_paren : Option Bracket → Bool
is_paren (Some brackets.Paren) = true
is_paren _ = false

abbrev pub is_square : Option Bracket → Bool
is_square (Some brackets.Square) = true
is_square _ = false

abbrev pub popped_if : Bool → List Bracket → List Bracket
popped_if wanted open_ones = if wanted then take (length open_ones - 1) open_ones else open_ones

abbrev pub bracketed : List Bracket → Option TokenKind → List Bracket
bracketed bs (Some kinds.OpenParen) = bs ++ brackets.Paren ∷ []
bracketed bs (Some kinds.OpenBracket) = bs ++ brackets.Square ∷ []
bracketed bs (Some kinds.CloseParen) = popped_if (is_paren (slice_get bs (length bs - 1))) bs
bracketed bs (Some kinds.CloseBracket) = popped_if (is_square (slice_get bs (length bs - 1))) bs
bracketed bs _ = bs

abbrev pub sorted_by : Sort → Option TokenKind → Bool → Sort
sorted_by sort None spaced = sort
sorted_by sort (Some kind) spaced = sorted sort kind spaced

abbrev pub end_by : Option TokenKind → ℕ → ℕ → ℕ
end_by None end to = end
end_by (Some kind) end to = to

-- nothing is open at a place but brackets
abbrev pub is_outside : Line → Bool
is_outside line = length line.opened == 0

-- the signs `=` and `+` at the beginning of a statement are `@mixin` and `@include`
abbrev pub renamed : Sort → Option TokenKind → Option TokenKind
renamed sorts.Fresh (Some kinds.Equals) = Some kinds.AtName
renamed sorts.Fresh (Some kinds.Plus) = Some kinds.AtName
renamed sort token = token

unfoldable pub line_after : Line → Option TokenKind → Change → ℕ → ℕ → Line
line_after line token change to at = record {
  opened = changed line.opened change at;
  before = before_of token;
  brackets = if is_outside line then bracketed line.brackets token else line.brackets;
  sort = if is_outside line then sorted_by line.sort token (is_spaced line.before) else line.sort;
  end = end_by token line.end to;
  comments = [];
}

-- signs that stand for what the lines tell
abbrev pub is_refused_sign : List Bracket → Option TokenKind → Bool
is_refused_sign bs (Some kinds.Semicolon) = true
is_refused_sign bs (Some kinds.OpenBrace) = length bs == 0
is_refused_sign bs (Some kinds.CloseBrace) = length bs == 0
is_refused_sign bs _ = false

abbrev pub is_some_token : Option TokenKind → Bool
is_some_token None = false
is_some_token (Some kind) = true

-- such a sign of a statement, and each token behind a comment
unfoldable pub is_refused : Mode → Line → Option TokenKind → Bool
is_refused modes.Between line token = false
is_refused (modes.Statement depth) line token = is_outside line && is_refused_sign line.brackets token
is_refused (modes.Comment extent) line token = false
is_refused (modes.Behind extent) line token = is_some_token token

-- a token, and the comments before it
abbrev pub kept_behind : List Token → Option TokenKind → ℕ → ℕ → Before → List Token
kept_behind comments None from to before = []
kept_behind comments (Some kind) from to before = comments ++ kept_by (Some kind) from to before

unfoldable pub piece_found : State → Piece → Found
piece_found s p = record {
  laid = record {
    tokens = kept_behind s.line.comments (renamed s.line.sort p.token) s.at p.to s.line.before;
    refused = refused_at (is_refused s.mode s.line (renamed s.line.sort p.token)) s.at;
  };
  state = record {
    at = p.to;
    mode = s.mode;
    line = line_after s.line (renamed s.line.sort p.token) p.change p.to s.at;
    blocks = s.blocks;
  };
}

abbrev pub piece_taken : State → Option Piece → Result Found ℕ
piece_taken s None = Err (last_start s.line.opened s.at)
piece_taken s (Some p) = Ok (piece_found s p)

-- what SCSS has at that place
unfoldable pub piece_step : List ℕ → State → Result Found ℕ
piece_step bs s = piece_taken s (piece bs (top syntaxes.Scss s.line.opened) s.line.before s.at)
