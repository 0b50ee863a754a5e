-- The heads of statements of raw text: the name of an at-rule, with `#{}` in it or without, and that of a custom property.
use Rattle.std.specs.Prelude.{◌≡◌, ℕ, Bool, true, false, nat_lt, List, [], ◌∷◌}
use Rattle.sw_parse_terminals.specs.declared.terminal.Terminal.{Terminal}
use Rattle.sw_parse_terminals.specs.declared.terminal.Terminal.TheVariants as terminals
use Rattle.sw_parse_lexemes.specs.declared.sort.Sort.{Sort}
use Rattle.sw_parse_lexemes.specs.declared.sort.Sort.TheVariants as sorts
use Rattle.sw_parse_lexemes.specs.declared.plain.Plain.{Plain}
use Rattle.sw_parse_lexemes.specs.declared.state.Mode.{Mode}
use Rattle.sw_parse_lexemes.specs.declared.state.Mode.TheVariants as modes
use Rattle.sw_parse_lexemes.specs.declared.state.Frame.{Frame}
use Rattle.sw_parse_lexemes.specs.declared.state.State.{State}
use Rattle.sw_parse_lexemes.specs.Ahead.{sort_at, spaced_at, length_at}
use Rattle.sw_convert_passing.specs.Written.{Written, written, direct, Stand}
use Rattle.sw_convert_passing.specs.Places.{Told}
use Rattle.sw_convert_passing.specs.Values.{Items, Parts, inserted}
use Rattle.sw_convert_passing.specs.Heads.{Starts}
use Rattle.sw_convert_heads_passing.specs.RawTexts.{precedes_text}

-- the at-rules that take text
abbrev pub takes_text : Sort → Bool
takes_text sorts.AtSupports = true
takes_text sorts.AtRoot = true
takes_text sorts.AtImport = true
takes_text sorts.AtExtend = true
takes_text _ = false

abbrev pub text_rule : Sort → Terminal
text_rule sorts.AtSupports = terminals.AtSupports
text_rule sorts.AtRoot = terminals.AtRoot
text_rule sorts.AtImport = terminals.AtImport
text_rule _ = terminals.AtExtend

abbrev pub is_at_name : Sort → Bool
is_at_name sorts.AtName = true
is_at_name _ = false

-- all others with a meaning of their own
abbrev pub is_keyword : Sort → Bool
is_keyword sorts.AtUse = true
is_keyword sorts.AtForward = true
is_keyword sorts.AtFunction = true
is_keyword sorts.AtMixin = true
is_keyword sorts.AtInclude = true
is_keyword sorts.AtContent = true
is_keyword sorts.AtReturn = true
is_keyword sorts.AtWarn = true
is_keyword sorts.AtDebug = true
is_keyword sorts.AtError = true
is_keyword sorts.AtIf = true
is_keyword sorts.AtElse = true
is_keyword sorts.AtElseIf = true
is_keyword sorts.AtEach = true
is_keyword sorts.AtFor = true
is_keyword sorts.AtWhile = true
is_keyword sorts.AtMedia = true
is_keyword sorts.AtCharset = true
is_keyword sort = takes_text sort

pub data TextHead : List Written → Type 0 where
  text_head : {spaced : Bool} → (sort : Sort) → takes_text sort ≡ true
      → TextHead (written sort spaced (text_rule sort) ∷ [])
  named_head : {spaced : Bool} {parts : List Written} → Parts parts
      → TextHead (written sorts.AtName spaced terminals.AtOther ∷ parts)
  -- a keyword directly before a `#{` is none
  keyword_head : {spaced : Bool} {inner parts : List Written} → (sort : Sort) → is_keyword sort ≡ true → Items inner
      → Parts parts
      → TextHead (written sort spaced terminals.AtOther ∷ inserted false terminals.PartInsert inner parts)
  inserted_head : {spaced : Bool} {inner parts : List Written} → Items inner → Parts parts
      → TextHead (written sorts.At spaced terminals.AtInsert ∷ inserted false terminals.WordInsert inner parts)
  minus_head : {spaced : Bool} {inner parts : List Written} → Items inner → Parts parts
      → TextHead
      (written sorts.At spaced terminals.AtInsert ∷ direct sorts.Minus terminals.WordMinus
      ∷ inserted false terminals.WordInsert inner parts)

-- every keyword is longer than a sign, as in each sheet that isn't written in lines
abbrev pub AreKeywords : List Plain → Type 0
AreKeywords plains = (at : ℕ) → is_keyword (sort_at plains at) ≡ true → nat_lt 1 (length_at plains at) ≡ true

-- a head is what it is written as, and text may stand behind it and white space
pub record HeadTold (plains : List Plain) (mode : Mode) (frames : List Frame) (state : State) (at : ℕ)
    (tokens : List Written) (to : ℕ) : Type 0 where
  pub told : Told plains mode frames state at tokens to
  pub before : precedes_text told.end.before ≡ true

abbrev pub TextHeadsAreTold : Type 0
TextHeadsAreTold =
    (tokens : List Written) → TextHead tokens → (plains : List Plain) (frames : List Frame) (state : State)
    (at to : ℕ) → AreKeywords plains → Starts frames state → Stand plains at tokens to → spaced_at plains to ≡ true
    → HeadTold plains modes.Raw frames state at tokens to
