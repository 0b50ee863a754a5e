-- What is written of raw text that was read: its tokens as they stood, and those of the values in `#{}`. Wherever they
-- stand with the same text around these values, they are read as a text like the one that was read.
use Rattle.std.specs.Prelude.{◌≡◌, ℕ, suc, ◌+◌, List, [], ◌∷◌, ◌++◌, length}
use Rattle.sw_tree.specs.declared.expr.Expr.{Expr}
use Rattle.sw_parse_terminals.specs.declared.terminal.Terminal.{Terminal}
use Rattle.sw_parse_terminals.specs.declared.terminal.Terminal.TheVariants as terminals
use Rattle.sw_parse_terminals.specs.Numbers.{just}
use Rattle.sw_parse_table.specs.declared.source.Source.{Source}
use Rattle.sw_parse_table.specs.Parts.{Part, Inserts, Texts}
use Rattle.sw_parse_table.specs.Sources.{parts_between, text_between}
use Rattle.sw_parse_table.specs.Statements.{raw}
use Rattle.sw_convert_alike.specs.Expressions.{LikeParts}
use Rattle.sw_convert_again.specs.Tokens.{Extent, extent, shifted, Tok, sign, Stands, Old, saying}
use Rattle.sw_convert_again.specs.Spells.{Spells, text_said, within}
use Rattle.sw_convert_again.specs.Again.{Reads}

-- the brackets in raw text
pub data Brackets : Terminal → Terminal → Type 0 where
  parens : Brackets terminals.RawParen terminals.RawParenEnd
  squares : Brackets terminals.RawBracket terminals.RawBracketEnd
  braces : Brackets terminals.RawBrace terminals.RawBraceEnd

mutual
  -- an item: a token, a value in `#{}`, or brackets around items; and where values stand in its tokens
  pub data SpellsRawItem (source : Source) : ℕ → ℕ → List Part → List Tok → List Extent → Type 0 where
    raw_token : {i : ℕ} → Old source i (just terminals.Raw)
        → SpellsRawItem source i (suc i) [] (sign terminals.Raw ∷ []) []
    raw_insert : {i c : ℕ} {value : Expr} {tokens : List Tok} → Old source i (just terminals.Insert)
        → Spells source (suc i) c value tokens → Old source c (just terminals.InsertEnd)
        → SpellsRawItem source i (suc c) (Inserts i (suc c) value ∷ [])
        (within (sign terminals.Insert) tokens terminals.InsertEnd) (extent 0 (2 + length tokens) ∷ [])
    raw_brackets : {i c : ℕ} {opening closing : Terminal} {parts : List Part} {tokens : List Tok} {extents : List Extent}
        → Brackets opening closing → Old source i (just opening) → SpellsRawText source (suc i) c parts tokens extents
        → Old source c (just closing)
        → SpellsRawItem source i (suc c) parts (within (sign opening) tokens closing) (shifted 1 extents)

  -- items one behind the other
  pub data SpellsRawText (source : Source) : ℕ → ℕ → List Part → List Tok → List Extent → Type 0 where
    raw_end : {i : ℕ} → SpellsRawText source i i [] [] []
    raw_more : {i k j : ℕ} {parts more : List Part} {tokens others : List Tok} {extents further : List Extent}
        → SpellsRawItem source i k parts tokens extents → SpellsRawText source k j more others further
        → SpellsRawText source i j (parts ++ more) (tokens ++ others) (extents ++ shifted (length tokens) further)

-- the tokens of a raw text, of which the first says what the text is
abbrev pub raw_tokens : Source → ℕ → ℕ → List Part → List Extent → List Tok → List Tok
raw_tokens source i j values extents tokens = saying (text_said source i j values extents (length tokens)) tokens

-- what was read is one raw text, it has tokens, and where these stand with its text they are read as one like it
pub record IsRawAgain (source written : Source) (n i j : ℕ) (w : List Part) : Type 0 where
  pub values : List Part
  pub is : w ≡ Texts (text_between source i j values) ∷ []
  pub tokens : List Tok
  pub extents : List Extent
  pub spells : SpellsRawText source i j values tokens extents
  pub back : (p q : ℕ) → Stands written p (raw_tokens source i j values extents tokens) q
      → (found : List Part) × Reads written n (raw written) p q (Texts (text_between written p q found) ∷ [])
      × LikeParts (parts_between source i j values) (parts_between written p q found)

-- all raw text is read again, through any number of brackets
abbrev pub RawTextsAgain : Type 0
RawTextsAgain =
    (source written : Source) (n i j : ℕ) (w : List Part) → Reads source n (raw source) i j w
    → IsRawAgain source written n i j w
