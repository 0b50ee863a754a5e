-- A text of plain CSS with its tokens as the grammar sees them, and the texts and spans between their places.
use Rattle.std.specs.Prelude.{ℕ, zero, suc, ◌+◌, ◌-◌, Bool, true, false, if◌then◌else◌, List, [], ◌∷◌, ◌++◌, Option, Some, None, slice_get, slice_range, length}
use Rattle.sw_parse_grammar.specs.Grammar.{Text}
use Rattle.sw_text.specs.Places.{pos_at}
use Rattle.sw_text.specs.declared.place.Span.{Span}
use Rattle.sw_tokens.specs.Listed.{Listed}
use Rattle.sw_tokens.specs.declared.token.Token.{Token}
use Rattle.sw_tokens.specs.declared.token.TokenKind.{TokenKind}
use Rattle.sw_tokens.specs.declared.token.TokenKind.TheVariants as kinds
use Rattle.sw_parse_terminals.specs.declared.lexeme.Lexeme.{Lexeme}
use Rattle.sw_tree.specs.declared.text.Parts.TheVariants.{Plain}
use Rattle.sw_tree.specs.declared.text.Text.{Text as TreeText}
use Rattle.sw_parse_table.specs.declared.source.Source.{Source}
use Rattle.sw_parse_table.specs.Parts.{Part, Place}
use Rattle.sw_parse_table.specs.Sources.{terminal_in}
use Rattle.sw_parse_css.specs.Lexemes.{lexemes_of}

pub record Seen : Type 0 where
  pub listed : Listed
  pub lexemes : List Lexeme

-- what is seen of a text's tokens, and what a reader has
abbrev pub seen_of : Listed → Seen
seen_of listed = record { listed = listed; lexemes = lexemes_of listed.sheet.bytes listed.list }

abbrev pub seen : Source → Seen
seen source = record { listed = source.tokens.now; lexemes = source.lexemes.now }

abbrev pub is_comment : TokenKind → Bool
is_comment kinds.Comment = true
is_comment _ = false

abbrev pub comment_in : Option Token → Option Token
comment_in None = None
comment_in (Some token) = if is_comment token.kind then Some token else None

module _ (seen : Seen) where
  abbrev pub bytes : List ℕ
  bytes = seen.listed.sheet.bytes

  abbrev pub lexeme_at : ℕ → Option Lexeme
  lexeme_at at = slice_get seen.lexemes at

  -- the terminal at a place, 0 past the end
  unfoldable pub terminal_at : ℕ → ℕ
  terminal_at at = terminal_in (lexeme_at at)

  abbrev pub text_of : Text Part
  text_of = record { kind = terminal_at; kept = λ at. Place at ∷ [] }

  -- where the token at a place begins, and where it ends
  abbrev pub from_in : Option Lexeme → ℕ
  from_in None = length bytes
  from_in (Some lexeme) = lexeme.from

  abbrev pub to_in : Option Lexeme → ℕ
  to_in None = length bytes
  to_in (Some lexeme) = lexeme.to

  unfoldable pub from_at : ℕ → ℕ
  from_at at = from_in (lexeme_at at)

  unfoldable pub to_at : ℕ → ℕ
  to_at at = to_in (lexeme_at at)

  -- where it stands in the list of tokens
  abbrev pub token_in : Option Lexeme → ℕ
  token_in None = length seen.listed.list
  token_in (Some lexeme) = lexeme.token

  unfoldable pub token_at : ℕ → ℕ
  token_at at = token_in (lexeme_at at)

  abbrev pub span_from : ℕ → ℕ → Span
  span_from from to = record { file = seen.listed.sheet.path; from = pos_at bytes from; to = pos_at bytes to }

  -- the span of one token, and that from the token at a place to the one before another
  abbrev pub span_at : ℕ → Span
  span_at at = span_from (from_at at) (to_at at)

  abbrev pub span_between : ℕ → ℕ → Span
  span_between at place = span_from (from_at at) (to_at (place - 1))

  -- the token at a place in the list, where it is a comment
  unfoldable pub comment_at : ℕ → Option Token
  comment_at at = comment_in (slice_get seen.listed.list at)

  -- what stands from an offset on before a comment, and from where on more follows
  abbrev pub before_comment : ℕ → Option Token → List ℕ
  before_comment from None = []
  before_comment from (Some comment) = slice_range bytes from comment.from

  abbrev pub behind_comment : ℕ → Option Token → ℕ
  behind_comment from None = from
  behind_comment from (Some comment) = comment.to

  -- the text from an offset to another without the comments among so many tokens behind one
  abbrev pub said_from : ℕ → ℕ → ℕ → ℕ → List ℕ
  said_from to from at zero = slice_range bytes from to
  said_from to from at (suc n) =
      before_comment from (comment_at (at + 1)) ++ said_from to (behind_comment from (comment_at (at + 1))) (at + 1) n

  -- the text from the token at a place to the one before another, without the comments in it
  unfoldable pub said : ℕ → ℕ → List ℕ
  said at place =
      said_from (to_at (place - 1)) (from_at at) (token_at at) (token_at (place - 1) - token_at at)

  abbrev pub text_between : ℕ → ℕ → TreeText
  text_between at place = record { parts = Plain (said at place); span = span_between at place }
