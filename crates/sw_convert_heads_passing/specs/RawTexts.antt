-- Raw text as it is written, in a rule, an at-rule or a custom property: its tokens as they stood, values in `#{}`, and
-- brackets of it in each other.
use Rattle.std.specs.Prelude.{◌≡◌, ℕ, Bool, true, false, not, ◌&&◌, ◌||◌, nat_lt, List, [], ◌∷◌, Some}
use Rattle.sw_parse_terminals.specs.declared.terminal.Terminal.{Terminal}
use Rattle.sw_parse_terminals.specs.declared.terminal.Terminal.TheVariants as terminals
use Rattle.sw_parse_lexemes.specs.declared.sort.Sort.{Sort}
use Rattle.sw_parse_lexemes.specs.declared.sort.Sort.TheVariants as sorts
use Rattle.sw_parse_lexemes.specs.declared.plain.Plain.{Plain}
use Rattle.sw_parse_lexemes.specs.declared.state.Mode.{Mode}
use Rattle.sw_parse_lexemes.specs.declared.state.Mode.TheVariants as modes
use Rattle.sw_parse_lexemes.specs.declared.state.Bracket.{Bracket}
use Rattle.sw_parse_lexemes.specs.declared.state.Bracket.TheVariants as brackets
use Rattle.sw_parse_lexemes.specs.declared.state.Frame.{Frame}
use Rattle.sw_parse_lexemes.specs.declared.state.State.{State}
use Rattle.sw_parse_lexemes.specs.Classes.{is_name, is_number}
use Rattle.sw_parse_lexemes.specs.Ahead.{sort_at, length_at}
use Rattle.sw_parse_lexemes.specs.Names.{is_raw as is_raw_mode, continues}
use Rattle.sw_parse_lexemes.specs.Brackets.{innermost, is_outer, is_custom}
use Rattle.sw_convert_passing.specs.Written.{Written, written, Stand, Within}
use Rattle.sw_convert_passing.specs.Places.{Told}
use Rattle.sw_convert_passing.specs.Kinds.{is_raw}
use Rattle.sw_convert_passing.specs.Values.{Items, seam, enclosed, inserted}

-- the innermost brackets round a text that are text themselves
pub data Around : Type 0 where
  Outside : Around
  Parens : Around
  Squares : Around
  Braces : Around

abbrev pub is_outside : Around → Bool
is_outside Outside = true
is_outside _ = false

abbrev pub is_parens : Around → Bool
is_parens Parens = true
is_parens _ = false

abbrev pub is_squares : Around → Bool
is_squares Squares = true
is_squares _ = false

abbrev pub is_braces : Around → Bool
is_braces Braces = true
is_braces _ = false

-- signs that are text there and something else in values
abbrev pub is_text_sign : Sort → Bool
is_text_sign sorts.Plus = true
is_text_sign sorts.Minus = true
is_text_sign sorts.Dollar = true
is_text_sign sorts.Comma = true
is_text_sign _ = false

-- brackets that close nothing, and what is text in brackets alone
abbrev pub is_stray : Mode → Around → Sort → Bool
is_stray mode around sorts.CloseParen = not (is_custom mode) && not (is_parens around)
is_stray mode around sorts.CloseBracket = not (is_custom mode) && not (is_squares around)
is_stray mode around sorts.OpenBrace = not (is_custom mode) && not (is_outside around)
is_stray mode around sorts.CloseBrace = not (is_custom mode) && not (is_outside around || is_braces around)
is_stray mode around sorts.Semicolon = not (is_outside around)
is_stray mode around _ = false

pub data RawText : Mode → Around → List Written → Type 0 where
  raw_end : {mode : Mode} {around : Around} → RawText mode around []
  raw_token : {mode : Mode} {around : Around} {spaced : Bool} {rest : List Written} → (sort : Sort)
      → is_raw sort ≡ true → RawText mode around rest
      → RawText mode around (written sort spaced terminals.Raw ∷ rest)
  raw_name : {mode : Mode} {around : Around} {spaced : Bool} {rest : List Written} → (sort : Sort)
      → is_name sort ≡ true → RawText mode around rest
      → RawText mode around (written sort spaced terminals.Raw ∷ rest)
  raw_number : {mode : Mode} {around : Around} {spaced : Bool} {rest : List Written} → (sort : Sort)
      → is_number sort ≡ true → RawText mode around rest
      → RawText mode around (written sort spaced terminals.Raw ∷ rest)
  raw_sign : {mode : Mode} {around : Around} {spaced : Bool} {rest : List Written} → (sort : Sort)
      → is_text_sign sort ≡ true → RawText mode around rest
      → RawText mode around (written sort spaced terminals.Raw ∷ rest)
  raw_stray : {mode : Mode} {around : Around} {spaced : Bool} {rest : List Written} → (sort : Sort)
      → is_stray mode around sort ≡ true → RawText mode around rest
      → RawText mode around (written sort spaced terminals.Raw ∷ rest)
  raw_insert : {mode : Mode} {around : Around} {spaced : Bool} {inside rest : List Written} → Items inside
      → RawText mode around rest → RawText mode around (inserted spaced terminals.Insert inside rest)
  raw_parens : {mode : Mode} {around : Around} {spaced : Bool} {inside rest : List Written} → (blank : Bool)
      → RawText mode Parens inside → RawText mode around rest
      → RawText mode around
      (enclosed (written sorts.OpenParen spaced terminals.RawParen) inside
      (written sorts.CloseParen blank terminals.RawParenEnd) rest)
  raw_squares : {mode : Mode} {around : Around} {spaced : Bool} {inside rest : List Written} → (blank : Bool)
      → RawText mode Squares inside → RawText mode around rest
      → RawText mode around
      (enclosed (written sorts.OpenBracket spaced terminals.RawBracket) inside
      (written sorts.CloseBracket blank terminals.RawBracketEnd) rest)
  -- in a custom property alone
  raw_braces : {around : Around} {spaced : Bool} {inside rest : List Written} → (blank : Bool)
      → RawText modes.Custom Braces inside → RawText modes.Custom around rest
      → RawText modes.Custom around
      (enclosed (written sorts.OpenBrace spaced terminals.RawBrace) inside
      (written sorts.CloseBrace blank terminals.RawBraceEnd) rest)
  raw_seam : {mode : Mode} {around : Around} {rest : List Written} → RawText mode around rest
      → RawText mode around (seam ∷ rest)

-- what is innermost of all that is open
pub record Innermost (bracket : Bracket) (opened : Terminal) (frames : List Frame) : Type 0 where
  pub frame : Frame
  pub is : innermost frames ≡ Some frame
  pub bracket_is : frame.bracket ≡ bracket
  pub opened_is : frame.opened ≡ opened

abbrev pub IsAround : Around → List Frame → Type 0
IsAround Outside frames = is_outer (innermost frames) ≡ true
IsAround Parens frames = Innermost brackets.Paren terminals.RawParen frames
IsAround Squares frames = Innermost brackets.Bracket terminals.RawBracket frames
IsAround Braces frames = Innermost brackets.Brace terminals.RawBrace frames

-- the terminals behind which raw text may begin
abbrev pub precedes_text : Terminal → Bool
precedes_text terminals.Owner = false
precedes_text terminals.As = false
precedes_text terminals.Prefix = false
precedes_text terminals.Special = false
precedes_text terminals.AtInsert = false
precedes_text terminals.WordMinus = false
precedes_text _ = true

-- text may begin here: no word goes on
pub record TextBegins (plains : List Plain) (state : State) (at : ℕ) : Type 0 where
  pub before : precedes_text state.before ≡ true
  pub word : continues state plains at ≡ false

-- every brace has a text of its own, as in each sheet that isn't written in lines
abbrev pub AreBraces : List Plain → Type 0
AreBraces plains = (at : ℕ) → sort_at plains at ≡ sorts.OpenBrace → nat_lt 0 (length_at plains at) ≡ true

-- text is what it is written as, and more may follow
pub record TextTold (plains : List Plain) (mode : Mode) (frames : List Frame) (state : State) (at : ℕ)
    (tokens : List Written) (to : ℕ) : Type 0 where
  pub told : Told plains mode frames state at tokens to
  pub begins : TextBegins plains told.end to

abbrev pub RawTextsAreTold : Type 0
RawTextsAreTold =
    (mode : Mode) (around : Around) (tokens : List Written) → RawText mode around tokens
    → (plains : List Plain) (frames : List Frame) (state : State) (at to : ℕ) → is_raw_mode mode ≡ true
    → AreBraces plains → Within mode frames state → IsAround around frames → TextBegins plains state at
    → Stand plains at tokens to → TextTold plains mode frames state at tokens to
