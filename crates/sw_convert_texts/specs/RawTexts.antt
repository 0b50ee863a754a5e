-- Raw text as it is written at the level of a sheet, in no `#{}`: what is to be shown of it.
use Rattle.std.specs.Prelude.{◌≡◌, ◌⊎◌, ℕ, Bool, true, false, ◌&&◌, ◌||◌, ◌==◌, List, [], ◌∷◌, ◌++◌, codes}
use Rattle.sw_text_scan.specs.Bytes.{sign}
use Rattle.sw_tokens.specs.declared.pieces.Before.{Before}
use Rattle.sw_parse_lexemes.specs.declared.state.Mode.{Mode}
use Rattle.sw_parse_table.specs.declared.source.Source.{Source}
use Rattle.sw_parse_table.specs.Parts.{Part}
use Rattle.sw_parse_table.specs.Sources.{text_between}
use Rattle.sw_convert_spelling.specs.Spelt.{behind_gap}
use Rattle.sw_convert_written.specs.Escapes.{ends_unclosed}
use Rattle.sw_convert_written.specs.Heads.{raw_text, selector_text}
use Rattle.sw_convert_passing.specs.Written.{Written}
use Rattle.sw_convert_heads_passing.specs.RawTexts.{RawText, Outside}
use Rattle.sw_convert_again.specs.Tokens.{Tok, Extent}
use Rattle.sw_convert_again.specs.RawTexts.{raw_tokens}
use Rattle.sw_convert_tokens.specs.Joints.{Joint, text, toks, writtens, behind, Tell, Stand}
use Rattle.sw_convert_tokens.specs.Written.{is_calm, gap_of, begins_white}

-- tokens that are this text behind what stands directly before them, where nothing is open, with what may stand behind
-- them; the grammar and the pass over tokens see them so
pub record SheetSegment (before : Before) (bytes : List ℕ) (tokens : List Tok) (passed : List Written) (end : Before)
    (Behind : List ℕ → Type 0) : Type 0 where
  pub joints : List Joint
  pub spelling : text joints ≡ bytes
  pub seen : toks joints ≡ tokens
  pub written : writtens joints ≡ passed
  pub last : behind before joints ≡ end
  pub tells : Tell joints
  pub stand : (after : List ℕ) → Behind after → Stand [] before joints [] after

-- a `;`, a space or a comment behind a text, and no space that an escape at its end would take
abbrev pub ends_statement : List ℕ → Bool
ends_statement [] = false
ends_statement (b ∷ rest) = (b == sign ";") || (b == sign " ")

pub record EndsText (text after : List ℕ) : Type 0 where
  pub ends : (ends_statement after ≡ true)
      ⊎ ((ends_unclosed text ≡ true) × (rest : List ℕ) × (after ≡ codes "/**/" ++ rest))
  pub closed : (begins_white after && ends_unclosed text) ≡ false

pub record IsRawWritten (mode : Mode) (text : List ℕ) (tokens : List Tok) (before : Before) (spaced : Bool) : Type 0 where
  pub end : Before
  pub passed : List Written
  pub segment : SheetSegment before (gap_of spaced ++ text) tokens passed end (EndsText text)
  pub told : RawText mode Outside passed

abbrev pub RawWritten : Mode → List ℕ → List Tok → Type 0
RawWritten mode text tokens =
    (before : Before) (spaced : Bool) → is_calm (behind_gap before (gap_of spaced)) ≡ true
    → IsRawWritten mode text tokens before spaced

-- a raw text of a source, and the same before the block of a rule
abbrev pub IsText : Source → Mode → ℕ → ℕ → List Part → List Extent → List Tok → Type 0
IsText source mode i j values extents tokens =
    RawWritten mode (raw_text (text_between source i j values)) (raw_tokens source i j values extents tokens)

abbrev pub IsSelector : Source → Mode → ℕ → ℕ → List Part → List Extent → List Tok → Type 0
IsSelector source mode i j values extents tokens =
    RawWritten mode (selector_text (text_between source i j values)) (raw_tokens source i j values extents tokens)
