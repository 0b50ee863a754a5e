-- The texts and the spans of tokens, by their places.
use Rattle.std.specs.Prelude.{ℕ, zero, suc, ◌+◌, ◌-◌, min, max, Bool, true, false, not, if◌then◌else◌, List, [], ◌∷◌, ◌++◌, Option, Some, None, slice_get, slice_range, length}
use Rattle.std.specs.Str.{IsCharBoundary}
use Rattle.sw_parse_grammar.specs.Grammar.{Text}
use Rattle.sw_text.specs.Places.{pos_at}
use Rattle.sw_text.specs.declared.place.Span.{Span}
use Rattle.sw_text_scan.specs.Bytes.{is_break, is_white}
use Rattle.sw_tokens.specs.declared.token.Token.{Token}
use Rattle.sw_tokens.specs.declared.token.TokenKind.{TokenKind}
use Rattle.sw_tokens.specs.declared.token.TokenKind.TheVariants as tokens
use Rattle.sw_parse_terminals.specs.declared.lexeme.Lexeme.{Lexeme}
use Rattle.sw_parse_terminals.specs.Numbers.{number_of}
use Rattle.sw_tree.specs.declared.text.Piece.{Piece}
use Rattle.sw_tree.specs.declared.text.Piece.TheVariants as pieces
use Rattle.sw_tree.specs.declared.text.Parts.{Parts}
use Rattle.sw_tree.specs.declared.text.Parts.TheVariants.{Plain, Mixed}
use Rattle.sw_tree.specs.declared.text.Text.{Text as TreeText}
use Rattle.sw_parse_table.specs.Parts.{Part, Place, Inserts, Stands}
use Rattle.sw_parse_table.specs.declared.source.Source.{Source}
use Rattle.sw_parse_table.specs.declared.gap.Stretch.{Stretch}

abbrev pub terminal_in : Option Lexeme → ℕ
terminal_in None = 0
terminal_in (Some lexeme) = number_of lexeme.terminal

-- what a string, or the text in one, stands for
abbrev pub decoded_by : TokenKind → List ℕ
decoded_by (tokens.Quoted text) = text
decoded_by (tokens.Text text) = text
decoded_by _ = []

abbrev pub decoded_in : Option Token → List ℕ
decoded_in None = []
decoded_in (Some token) = decoded_by token.kind

-- a text where it isn't empty
abbrev pub text_piece : List ℕ → List Piece
text_piece [] = []
text_piece (b ∷ bytes) = pieces.Text (b ∷ bytes) ∷ []

-- a first text, and those that stand apart behind it
pub record Texts : Type 0 where
  pub first : List ℕ
  pub rest : List (List ℕ)

abbrev pub texts_list : Texts → List (List ℕ)
texts_list texts = texts.first ∷ texts.rest

-- a text before the first one
abbrev pub begun : List ℕ → Texts → Texts
begun text texts = record { first = text ++ texts.first; rest = texts.rest }

-- a text, the white space where comments stand behind it, and texts: without white space they stay apart
abbrev pub cut : List ℕ → List ℕ → Texts → Texts
cut text [] texts = record { first = text; rest = texts_list texts }
cut text (b ∷ gap) texts = begun (text ++ b ∷ gap) texts

abbrev pub pieces_in : List (List ℕ) → List Piece
pieces_in [] = []
pieces_in (text ∷ texts) = text_piece text ++ pieces_in texts

-- those that aren't empty
abbrev pub text_pieces : Texts → List Piece
text_pieces texts = pieces_in (texts_list texts)

abbrev pub plain_parts_by : List ℕ → List (List ℕ) → Parts
plain_parts_by first [] = Plain first
plain_parts_by first (next ∷ rest) = Mixed (pieces_in (first ∷ next ∷ rest))

-- one text, or several that stand apart
abbrev pub plain_parts : Texts → Parts
plain_parts texts = plain_parts_by texts.first texts.rest

-- a comment to the end of its line is open behind a byte: anything that isn't white space begins one
abbrev pub is_silent : Bool → ℕ → Bool
is_silent true b = not (is_break b)
is_silent false b = not (is_white b)

-- white space and comments to the end of their line, without these
abbrev pub blank : Bool → List ℕ → List ℕ
blank silent [] = []
blank silent (b ∷ bytes) = (if is_silent silent b then [] else b ∷ []) ++ blank (is_silent silent b) bytes

module _ (source : Source) where
  abbrev pub bytes : List ℕ
  bytes = source.tokens.now.sheet.bytes

  abbrev pub lexeme_at : ℕ → Option Lexeme
  lexeme_at at = slice_get source.lexemes.now at

  -- the terminal at a place, 0 past the end
  unfoldable pub terminal_at : ℕ → ℕ
  terminal_at at = terminal_in (lexeme_at at)

  abbrev pub text_of : Text Part
  text_of = record { kind = terminal_at; kept = λ at. Place at ∷ [] }

  abbrev pub from_in : Option Lexeme → ℕ
  from_in None = length bytes
  from_in (Some lexeme) = lexeme.from

  abbrev pub to_in : Option Lexeme → ℕ
  to_in None = length bytes
  to_in (Some lexeme) = lexeme.to

  -- where the token at a place begins, and where it ends
  unfoldable pub from_at : ℕ → ℕ
  from_at at = from_in (lexeme_at at)

  unfoldable pub to_at : ℕ → ℕ
  to_at at = to_in (lexeme_at at)

  abbrev pub token_of : Option Lexeme → Option Token
  token_of None = None
  token_of (Some lexeme) = slice_get source.tokens.now.list lexeme.token

  -- what the string at a place stands for, or the text in one
  unfoldable pub decoded_at : ℕ → List ℕ
  decoded_at at = decoded_in (token_of (lexeme_at at))

  abbrev pub bytes_from : ℕ → ℕ → List ℕ
  bytes_from from to = slice_range bytes from to

  abbrev pub span_from : ℕ → ℕ → Span
  span_from from to = record { file = source.tokens.now.sheet.path; from = pos_at bytes from; to = pos_at bytes to }

  -- the text and the span from the token at a place to the one before another
  abbrev pub bytes_between : ℕ → ℕ → List ℕ
  bytes_between at place = bytes_from (from_at at) (to_at (place - 1))

  abbrev pub span_between : ℕ → ℕ → Span
  span_between at place = span_from (from_at at) (to_at (place - 1))

  -- the text and the span of one token
  abbrev pub bytes_at : ℕ → List ℕ
  bytes_at at = bytes_from (from_at at) (to_at at)

  abbrev pub span_at : ℕ → Span
  span_at at = span_from (from_at at) (to_at at)

  -- a comment stands between the token at a place and the one before
  abbrev pub commented_in : Option Lexeme → Bool
  commented_in None = false
  commented_in (Some lexeme) = lexeme.commented

  unfoldable pub is_commented : ℕ → Bool
  is_commented at = commented_in (lexeme_at at)

  -- where the token at a place stands in the list of tokens
  abbrev pub token_in : Option Lexeme → ℕ
  token_in None = length source.tokens.now.list
  token_in (Some lexeme) = lexeme.token

  unfoldable pub token_at : ℕ → ℕ
  token_at at = token_in (lexeme_at at)

  -- the ends of a token of the list
  abbrev pub listed_from : Option Token → ℕ
  listed_from None = length bytes
  listed_from (Some token) = token.from

  abbrev pub listed_to : Option Token → ℕ
  listed_to None = length bytes
  listed_to (Some token) = token.to

  abbrev pub token_from : ℕ → ℕ
  token_from at = listed_from (slice_get source.tokens.now.list at)

  abbrev pub token_to : ℕ → ℕ
  token_to at = listed_to (slice_get source.tokens.now.list at)

  -- the white space from an offset to another, between which comments stand: so many tokens from one on
  abbrev pub blank_from : ℕ → ℕ → ℕ → ℕ → List ℕ
  blank_from to from at zero = blank false (bytes_from from to)
  blank_from to from at (suc n) =
      blank false (bytes_from from (token_from at)) ++ blank_from to (max from (token_to at)) (at + 1) n

  -- the first token between that at a place and the one before
  abbrev pub first_between : ℕ → ℕ
  first_between at = min (token_at (at - 1) + 1) (token_at at)

  -- the white space between the token at a place and the one before, without the comments there
  unfoldable pub gap_at : ℕ → List ℕ
  gap_at at =
      blank_from (from_at at) (to_at (at - 1)) (first_between at) (token_at at - first_between at)

  -- what stands from an offset on up to a token and behind it, where a comment stands before that
  abbrev pub before_gap : ℕ → ℕ → Texts → Texts
  before_gap from at texts =
      if is_commented at then cut (bytes_from from (to_at (at - 1))) (gap_at at) texts else texts

  -- from where on more follows
  abbrev pub behind_gap : ℕ → ℕ → ℕ
  behind_gap from at = if is_commented at then from_at at else from

  -- the texts from an offset to another without the comments in them, which stand behind so many tokens from a place on
  abbrev pub texts_from : ℕ → ℕ → ℕ → ℕ → Texts
  texts_from to from at zero = record { first = bytes_from from to; rest = [] }
  texts_from to from at (suc n) =
      before_gap from (at + 1) (texts_from to (behind_gap from (at + 1)) (at + 1) n)

  -- the text of a stretch without the comments in it: two texts where one stands with no white space beside it
  unfoldable pub texts : Stretch → Texts
  texts stretch = texts_from stretch.to stretch.from stretch.first (stretch.end - stretch.first)

  -- the text may be cut at both its ends
  pub record IsCut (stretch : Stretch) : Type 0 where
    pub from : IsCharBoundary bytes stretch.from
    pub to : IsCharBoundary bytes stretch.to

  -- from the token at a place to the one before another; a stretch up to a token, and behind the one before a place
  abbrev pub stretch_between : ℕ → ℕ → Stretch
  stretch_between at place =
      record { from = from_at at; to = to_at (place - 1); first = at; end = place - 1 }

  abbrev pub up_to : Stretch → ℕ → Stretch
  up_to stretch at = record { from = stretch.from; to = from_at at; first = stretch.first; end = at }

  abbrev pub behind : Stretch → ℕ → Stretch
  behind stretch place =
      record { from = to_at (place - 1); to = stretch.to; first = place - 1; end = stretch.end }

  -- what a stretch says, with what is inserted in it
  abbrev pub pieces_from : Stretch → List Part → List Piece
  pieces_from stretch [] = text_pieces (texts stretch)
  pieces_from stretch (Inserts i j value ∷ parts) =
      text_pieces (texts (up_to stretch i)) ++ pieces.Inserted value ∷ pieces_from (behind stretch j) parts
  pieces_from stretch (Stands i j value ∷ parts) =
      text_pieces (texts (up_to stretch i)) ++ pieces.Value value ∷ pieces_from (behind stretch j) parts
  pieces_from stretch (_ ∷ parts) = pieces_from stretch parts

  abbrev pub parts_from : Stretch → List Part → Parts
  parts_from stretch [] = plain_parts (texts stretch)
  parts_from stretch (part ∷ parts) = Mixed (pieces_from stretch (part ∷ parts))

  -- the text from the token at a place to the one before another, without comments and with what is inserted in it
  abbrev pub parts_between : ℕ → ℕ → List Part → Parts
  parts_between at place inserts = parts_from (stretch_between at place) inserts

  abbrev pub text_between : ℕ → ℕ → List Part → TreeText
  text_between at place inserts = record { parts = parts_between at place inserts; span = span_between at place }
