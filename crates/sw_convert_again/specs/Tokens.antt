-- The tokens that are written of a value, as the grammar sees them.
use Rattle.std.specs.Prelude.{◌≡◌, ◌⊎◌, ℕ, suc, ◌+◌, ◌-◌, Bool, true, false, not, ◌&&◌, List, [], ◌∷◌, Some}
use Rattle.sw_parse_grammar.specs.Grammar.{member}
use Rattle.sw_text.specs.Names.{dashed}
use Rattle.sw_tree.specs.declared.expr.Number.{Number}
use Rattle.sw_tree.specs.declared.text.Parts.{Parts}
use Rattle.sw_tree.specs.declared.text.Piece.{Piece}
use Rattle.sw_parse_terminals.specs.declared.terminal.Terminal.{Terminal}
use Rattle.sw_parse_terminals.specs.declared.lexeme.Lexeme.{Lexeme}
use Rattle.sw_parse_terminals.specs.Numbers.{number_of}
use Rattle.sw_parse_table.specs.declared.source.Source.{Source}
use Rattle.sw_parse_table.specs.declared.gap.Stretch.{Stretch}
use Rattle.sw_parse_table.specs.Sources.{Texts, text_pieces, lexeme_at, from_at, to_at, texts, bytes_at, bytes_between, decoded_at, stretch_between, up_to, behind, parts_between}
use Rattle.sw_parse_table.specs.Numerals.{numeral}
use Rattle.sw_parse_table.specs.Lined.{is_made}
use Rattle.sw_parse_table.specs.Sets.{endings}

-- where a value stands in a text: from so many tokens on up to so many
pub record Extent : Type 0 where
  pub first : ℕ
  pub behind : ℕ

abbrev pub extent : ℕ → ℕ → Extent
extent first behind = record { first = first; behind = behind }

-- the same counted from so many tokens before
abbrev pub shifted : ℕ → List Extent → List Extent
shifted by [] = []
shifted by (one ∷ extents) = extent (by + one.first) (by + one.behind) ∷ shifted by extents

-- the pieces before, between and behind the values of a text
abbrev pub around : Source → Stretch → List Extent → List (List Piece)
around source stretch [] = text_pieces (texts source stretch) ∷ []
around source stretch (one ∷ extents) =
    text_pieces (texts source (up_to source stretch one.first))
    ∷ around source (behind source stretch one.behind) extents

-- what of the text that begins with a token is kept in a tree
pub data Said : Type 0 where
  Nothing : Said
  -- a name, with `-` for each `_`
  Dashed : List ℕ → Said
  -- what a string stands for
  Decoded : List ℕ → Said
  -- so many tokens are this text
  Bytes : ℕ → List ℕ → Said
  -- so many tokens are the text of a number
  Numeral : ℕ → Number → Said
  -- so many tokens are a text without `#{}`
  Plain : ℕ → Parts → Said
  -- of a text with `#{}`: so many tokens are its text up to the first, or all of it
  Before : ℕ → Texts → Said
  All : ℕ → Texts → Said
  -- behind a `#{}`: so many tokens further are its text up to the next, or to its end
  Between : ℕ → Texts → Said
  Behind : ℕ → Texts → Said
  -- so many tokens are a text in which values stand so, and these pieces stand before, between and behind them
  Parted : ℕ → List Extent → List (List Piece) → Said
  -- it isn't empty
  Worded : Said

-- a token as it is written: the terminals that it may be, and what it says
pub record Tok : Type 0 where
  pub kinds : List Terminal
  pub said : Said

abbrev pub tok : Terminal → Said → Tok
tok terminal said = record { kinds = terminal ∷ []; said = said }

abbrev pub sign : Terminal → Tok
sign terminal = tok terminal Nothing

-- the text from an offset and a token on, up to the token at a place, and up to the end of the one before it
abbrev pub text_up_to : Source → ℕ → ℕ → ℕ → Texts
text_up_to source from first stop =
    texts source (record { from = from; to = from_at source stop; first = first; end = stop })

abbrev pub text_to_end : Source → ℕ → ℕ → ℕ → Texts
text_to_end source from first stop =
    texts source (record { from = from; to = to_at source (stop - 1); first = first; end = stop - 1 })

abbrev pub Says : Source → ℕ → Said → Type 0
Says source at Nothing = Unit {0}
Says source at (Dashed name) = dashed (bytes_at source at) ≡ name
Says source at (Decoded text) = decoded_at source at ≡ text
Says source at (Bytes count text) = bytes_between source at (at + count) ≡ text
Says source at (Numeral count number) = numeral (bytes_between source at (at + count)) ≡ number
Says source at (Plain count parts) = parts_between source at (at + count) [] ≡ parts
Says source at (Before count text) = text_up_to source (from_at source at) at (at + count) ≡ text
Says source at (All count text) = text_to_end source (from_at source at) at (at + count) ≡ text
Says source at (Between count text) =
    text_up_to source (to_at source (suc at - 1)) (suc at - 1) (suc at + count) ≡ text
Says source at (Parted count extents parts) =
    around source (stretch_between source at (at + count)) (shifted at extents) ≡ parts
Says source at Worded = is_made source at ≡ false
Says source at (Behind count text) =
    text_to_end source (to_at source (suc at - 1)) (suc at - 1) (suc at + count) ≡ text

abbrev pub Among : Terminal → List Terminal → Type 0
Among terminal [] = ⊥
Among terminal (one ∷ rest) = (terminal ≡ one) ⊎ Among terminal rest

-- a token stands at a place as it is written
pub record Is (source : Source) (at : ℕ) (token : Tok) : Type 0 where
  pub lexeme : Lexeme
  pub there : lexeme_at source at ≡ Some lexeme
  pub kind : Among lexeme.terminal token.kinds
  pub said : Says source at token.said

-- these tokens stand in a text from a place on up to another
abbrev pub Stands : Source → ℕ → List Tok → ℕ → Type 0
Stands source at [] to = at ≡ to
Stands source at (token ∷ tokens) to = Is source at token × Stands source (suc at) tokens to

-- a token of a set stands at a place
pub record Old (source : Source) (at : ℕ) (set : List ℕ) : Type 0 where
  pub lexeme : Lexeme
  pub there : lexeme_at source at ≡ Some lexeme
  pub kind : member (number_of lexeme.terminal) set ≡ true

-- none of these is the `!` of a flag
abbrev pub calm : List Terminal → Bool
calm [] = true
calm (terminal ∷ rest) = not (member (number_of terminal) endings) && calm rest

-- there are tokens, and the first is no `!` of a flag
abbrev pub Begins : List Tok → Type 0
Begins [] = ⊥
Begins (token ∷ tokens) = calm token.kinds ≡ true

-- the same tokens, of which the first says this
abbrev pub saying : Said → List Tok → List Tok
saying said [] = []
saying said (token ∷ tokens) = record { kinds = token.kinds; said = said } ∷ tokens
