-- What is written of a statement up to its end or its block: tokens where nothing is open, that begin one of its kind.
use Rattle.std.specs.Prelude.{◌≡◌, ℕ, Bool, true, false, if◌then◌else◌, List, [], ◌∷◌, ◌++◌, codes}
use Rattle.sw_tokens.specs.declared.pieces.Before.{Before}
use Rattle.sw_tokens.specs.declared.pieces.Before.TheVariants as befores
use Rattle.sw_parse_lexemes.specs.declared.state.Mode.{Mode}
use Rattle.sw_convert_written.specs.Escapes.{ends_unclosed}
use Rattle.sw_parse_lexemes.specs.declared.state.Mode.TheVariants as modes
use Rattle.sw_convert_passing.specs.Written.{Written}
use Rattle.sw_convert_passing.specs.Values.{seam}
use Rattle.sw_convert_again.specs.Tokens.{Tok}
use Rattle.sw_convert_tokens.specs.Joints.{text}
use Rattle.sw_convert_tokens.specs.Written.{is_calm}
use Rattle.sw_convert_heads_passing.specs.RawTexts.{RawText, Outside}
use Rattle.sw_convert_heads_passing.specs.Blocks.{open_sign}
use Rattle.sw_convert_heads_passing.specs.Rules.{is_rule}
use Rattle.sw_convert_heads_passing.specs.Statements.{Front, begins_else}
use Rattle.sw_convert_texts.specs.RawTexts.{SheetSegment, EndsText}

-- whatever stands behind
abbrev pub Anything : List ℕ → Type 0
Anything after = Unit {0}

-- what stands before the end of a statement or before its block, and whether it begins with `@else`
pub record IsFrontWritten (mode : Mode) (else_first : Bool) (text : List ℕ) (tokens : List Tok) (before : Before) :
    Type 0 where
  pub passed : List Written
  pub front : Front mode passed
  pub first : begins_else passed ≡ else_first
  pub end : Before
  -- where an escape is open at its end, a comment may stand directly behind it
  pub loose : ends_unclosed text ≡ true → end ≡ befores.Other
  pub segment : SheetSegment before text tokens passed end (EndsText text)

abbrev pub FrontWritten : Mode → List ℕ → List Tok → Type 0
FrontWritten mode text tokens = (before : Before) → is_calm before ≡ true → IsFrontWritten mode false text tokens before

-- the same of the head of `@else` and of `@else if`
abbrev pub ElseWritten : Mode → List ℕ → List Tok → Type 0
ElseWritten mode text tokens = (before : Before) → is_calm before ≡ true → IsFrontWritten mode true text tokens before

-- raw text behind a space
pub record IsTextWritten (mode : Mode) (text : List ℕ) (tokens : List Tok) (before : Before) : Type 0 where
  pub passed : List Written
  pub raw : RawText mode Outside passed
  pub end : Before
  pub loose : ends_unclosed text ≡ true → end ≡ befores.Other
  pub segment : SheetSegment before (codes " " ++ text) tokens passed end (EndsText text)

abbrev pub TextWritten : Mode → List ℕ → List Tok → Type 0
TextWritten mode text tokens = (before : Before) → IsTextWritten mode text tokens before

-- the text of a rule, with the comment that an escape at its end needs before the space and the block
abbrev pub seams : Bool → List Written
seams unclosed = if unclosed then seam ∷ [] else []

pub record IsRuleWritten (text : List ℕ) (tokens : List Tok) (before : Before) : Type 0 where
  pub passed : List Written
  pub raw : RawText modes.Raw Outside (passed ++ seams (ends_unclosed text))
  pub rule : is_rule ((passed ++ seams (ends_unclosed text)) ++ open_sign true ∷ []) ≡ true
  pub end : Before
  pub loose : ends_unclosed text ≡ true → end ≡ befores.Other
  pub segment : SheetSegment before text tokens passed end (EndsText text)

abbrev pub RuleWritten : List ℕ → List Tok → Type 0
RuleWritten text tokens = (before : Before) → is_calm before ≡ true → IsRuleWritten text tokens before
