-- What a bracket is at its place, and `;` in brackets (Sass specification, "Special functions"; CSS Syntax, blocks).
use Rattle.std.specs.Prelude.{ℕ, ◌+◌, ◌-◌, nat_lt, Bool, true, false, not, ◌&&◌, ◌||◌, if◌then◌else◌, List, length, Option, Some, None, slice_get}
use Rattle.sw_parse_terminals.specs.declared.terminal.Terminal.{Terminal}
use Rattle.sw_parse_terminals.specs.declared.terminal.Terminal.TheVariants as terminals
use Rattle.sw_parse_lexemes.specs.declared.sort.Sort.TheVariants as sorts
use Rattle.sw_parse_lexemes.specs.declared.plain.Plain.{Plain}
use Rattle.sw_parse_lexemes.specs.declared.state.Mode.{Mode}
use Rattle.sw_parse_lexemes.specs.declared.state.Mode.TheVariants as modes
use Rattle.sw_parse_lexemes.specs.declared.state.Bracket.TheVariants as brackets
use Rattle.sw_parse_lexemes.specs.declared.state.Frame.{Frame}
use Rattle.sw_parse_lexemes.specs.declared.state.State.{State}
use Rattle.sw_parse_lexemes.specs.Classes.{same}
use Rattle.sw_parse_lexemes.specs.Ahead.{sort_at, spaced_at, code_from}
use Rattle.sw_parse_lexemes.specs.Names.{is, is_not, continues}
use Rattle.sw_parse_lexemes.specs.Signs.{is_text, or_raw}

-- a condition begins with `(` or `not`
abbrev pub opens_condition : List Plain → ℕ → Bool
opens_condition plains at = same (sort_at plains at) sorts.OpenParen || is_not plains at

-- `(` in an expression or a media query
abbrev pub plain_paren : List Plain → ℕ → Terminal
plain_paren plains at =
    if opens_condition plains (code_from plains (at + 1))
    then terminals.ConditionParen
    else terminals.Paren

-- `(` in the head of `@include`: of the arguments, or of the parameters of its block
abbrev pub include_paren : State → List Plain → ℕ → Terminal
include_paren state plains at =
    if is state.before terminals.Named && not (spaced_at plains at) then terminals.CallParen
    else (if is state.before terminals.Using then terminals.HeadParen
    else terminals.Other)

abbrev pub paren_in : State → List Plain → ℕ → Terminal
paren_in state plains at =
    elim (state.mode) as (λ _. Terminal) [
      | modes.Raw ↦ terminals.RawParen
      | modes.Custom ↦ terminals.RawParen
      | modes.Special ↦ if continues state plains at then terminals.CallParen else terminals.RawParen
      | modes.Use ↦ terminals.HeadParen
      | modes.Forward ↦ terminals.HeadParen
      | modes.Head ↦ terminals.HeadParen
      | modes.Include ↦ include_paren state plains at
      | modes.Content ↦ terminals.CallParen
      | _ ↦ if continues state plains at then terminals.CallParen else plain_paren plains at
    ]

abbrev pub paren_terminal : State → List Plain → ℕ → Terminal
paren_terminal state plains at =
    if is state.before terminals.Special then terminals.RawParen else paren_in state plains at

abbrev pub bracket_terminal : Mode → Terminal
bracket_terminal mode = if is_text mode then terminals.RawBracket else terminals.Bracket

-- what is innermost of all that is open
abbrev pub innermost : List Frame → Option Frame
innermost frames = slice_get frames (length frames - 1)

abbrev pub is_custom : Mode → Bool
is_custom modes.Custom = true
is_custom _ = false

-- a `)` or `]` that closes nothing is a character of text, but not of a custom property
abbrev pub stray : Mode → Terminal
stray mode = if is_text mode && not (is_custom mode) then terminals.Raw else terminals.Other

abbrev pub closes_paren : Mode → Option Frame → Terminal
closes_paren mode None = stray mode
closes_paren mode (Some frame) =
    elim (frame.bracket) as (λ _. Terminal) [
      | brackets.Paren ↦ if is frame.opened terminals.RawParen then terminals.RawParenEnd else terminals.ParenEnd
      | _ ↦ stray mode
    ]

abbrev pub closes_bracket : Mode → Option Frame → Terminal
closes_bracket mode None = stray mode
closes_bracket mode (Some frame) =
    elim (frame.bracket) as (λ _. Terminal) [
      | brackets.Bracket ↦
          if is frame.opened terminals.RawBracket then terminals.RawBracketEnd else terminals.BracketEnd
      | _ ↦ stray mode
    ]

-- no bracket is open in the statement
abbrev pub is_outer : Option Frame → Bool
is_outer None = true
is_outer (Some frame) = elim (frame.bracket) as (λ _. Bool) [ brackets.Block ↦ true | _ ↦ false ]

abbrev pub is_brace : Option Frame → Bool
is_brace None = false
is_brace (Some frame) = elim (frame.bracket) as (λ _. Bool) [ brackets.Brace ↦ true | _ ↦ false ]

-- a bracket that stands in the text of a special function itself
abbrev pub is_inner : Option Frame → Bool
is_inner None = false
is_inner (Some frame) = elim (frame.mode) as (λ _. Bool) [ modes.Special ↦ true | _ ↦ false ]

-- `;`, `{` and `}` in brackets are text where the brackets are; a special function's own parentheses are none
abbrev pub sign_in_brackets : Mode → Option Frame → Terminal
sign_in_brackets modes.Special frame = if is_inner frame then terminals.Raw else terminals.Other
sign_in_brackets mode frame = or_raw mode terminals.Other

-- a `{` of so many bytes: a block's one that no text has stands in no custom property
abbrev pub open_brace : Mode → Option Frame → ℕ → Terminal
open_brace mode frame bytes =
    if is_custom mode && nat_lt 0 bytes then terminals.RawBrace
    else (if is_outer frame then terminals.Open
    else sign_in_brackets mode frame)

abbrev pub close_brace : Mode → Option Frame → Terminal
close_brace mode frame =
    if is_brace frame then terminals.RawBraceEnd
    else (if is_outer frame then terminals.Close
    else (if is_custom mode then terminals.Other
    else sign_in_brackets mode frame))

abbrev pub semicolon : Mode → Option Frame → Terminal
semicolon mode frame = if is_outer frame then terminals.Semicolon else sign_in_brackets mode frame
