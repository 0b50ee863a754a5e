-- What a sign is at its place (Sass specification, "Operators", "Interpolation"): a sign of a number, an operator, or
-- what begins a word, a variable or a flag.
use Rattle.std.specs.Prelude.{ℕ, ◌+◌, Bool, true, false, not, ◌&&◌, ◌||◌, if◌then◌else◌, List}
use Rattle.sw_parse_terminals.specs.declared.terminal.Terminal.{Terminal}
use Rattle.sw_parse_terminals.specs.declared.terminal.Terminal.TheVariants as terminals
use Rattle.sw_parse_lexemes.specs.declared.sort.Sort.TheVariants as sorts
use Rattle.sw_parse_lexemes.specs.declared.plain.Plain.{Plain}
use Rattle.sw_parse_lexemes.specs.declared.state.Mode.{Mode}
use Rattle.sw_parse_lexemes.specs.declared.state.Mode.TheVariants as modes
use Rattle.sw_parse_lexemes.specs.declared.state.State.{State}
use Rattle.sw_parse_lexemes.specs.Classes.{same}
use Rattle.sw_parse_lexemes.specs.Ahead.{sort_at, spaced_at, is_direct, name_direct, number_direct, code_from, next_sort}
use Rattle.sw_parse_lexemes.specs.Names.{is, is_raw, continues, is_apart}

-- the terminals that end an operand
abbrev pub ends_operand : Terminal → Bool
ends_operand terminals.Number = true
ends_operand terminals.Quoted = true
ends_operand terminals.TemplateEnd = true
ends_operand terminals.HashName = true
ends_operand terminals.True = true
ends_operand terminals.False = true
ends_operand terminals.Null = true
ends_operand terminals.Url = true
ends_operand terminals.UrlEnd = true
ends_operand terminals.VariableName = true
ends_operand terminals.Word = true
ends_operand terminals.Part = true
ends_operand terminals.InsertEnd = true
ends_operand terminals.Range = true
ends_operand terminals.Ampersand = true
ends_operand terminals.Important = true
ends_operand terminals.ParenEnd = true
ends_operand terminals.BracketEnd = true
ends_operand terminals.RawParenEnd = true
ends_operand _ = false

-- raw text, and the text of a special function
abbrev pub is_text : Mode → Bool
is_text modes.Special = true
is_text mode = is_raw mode

-- a token that is text there
abbrev pub or_raw : Mode → Terminal → Terminal
or_raw mode terminal = if is_text mode then terminals.Raw else terminal

-- a number stands directly behind, and `+` may be its sign
abbrev pub plus_signs : State → List Plain → ℕ → Bool
plus_signs state plains at = number_direct plains (at + 1) && not (ends_operand state.before)

-- the same of `-`, which white space before it makes a sign too
abbrev pub minus_signs : State → List Plain → ℕ → Bool
minus_signs state plains at = number_direct plains (at + 1) && (spaced_at plains at || not (ends_operand state.before))

-- a sign in text: of a number in a special function
abbrev pub sign_in_text : Mode → Bool → Terminal
sign_in_text mode signs = if signs && not (is_raw mode) then terminals.Sign else terminals.Raw

-- an operator between two operands, or before one
abbrev pub by_operand : State → Terminal → Terminal → Terminal
by_operand state binary prefix = if ends_operand state.before then binary else prefix

abbrev pub plus_terminal : State → List Plain → ℕ → Terminal
plus_terminal state plains at =
    if is_text state.mode then sign_in_text state.mode (plus_signs state plains at)
    else (if plus_signs state plains at then terminals.Sign
    else by_operand state terminals.Plus terminals.PrefixPlus)

-- a `#{`, or a `-` directly before one, directly behind an `@` is the name of an at-rule
abbrev pub names_rule : State → List Plain → ℕ → Bool
names_rule state plains at =
    (is state.before terminals.AtInsert || is state.before terminals.WordMinus) && not (spaced_at plains at)

abbrev pub minus_in_text : State → List Plain → ℕ → Terminal
minus_in_text state plains at =
    if names_rule state plains at && is_direct plains (at + 1) sorts.OpenInsert
    then terminals.WordMinus
    else sign_in_text state.mode (minus_signs state plains at)

abbrev pub minus_terminal : State → List Plain → ℕ → Terminal
minus_terminal state plains at =
    if continues state plains at then terminals.Part
    else (if is_text state.mode then minus_in_text state plains at
    else (if is_direct plains (at + 1) sorts.OpenInsert
    then (if is_apart state plains at then terminals.Other else terminals.WordMinus)
    else (if minus_signs state plains at then terminals.Sign
    else by_operand state terminals.Minus terminals.PrefixMinus)))

abbrev pub star_terminal : State → List Plain → ℕ → Terminal
star_terminal state plains at =
    if is state.before terminals.As then terminals.Star
    else (if is state.before terminals.Prefix && not (spaced_at plains at) then terminals.PrefixStar
    else or_raw state.mode terminals.Times)

abbrev pub comma_terminal : Mode → Terminal
comma_terminal modes.Special = terminals.SpecialComma
comma_terminal mode = if is_raw mode then terminals.Raw else terminals.Comma

abbrev pub dot_terminal : State → List Plain → ℕ → Terminal
dot_terminal state plains at =
    if is state.before terminals.Owner && not (spaced_at plains at)
    then terminals.OwnerDot
    else or_raw state.mode terminals.Other

abbrev pub is_params : Mode → Bool
is_params modes.Params = true
is_params _ = false

-- the last parameter alone may have a `...`
abbrev pub is_behind_rest : State → Bool
is_behind_rest state =
    is_params state.mode && (is state.before terminals.Comma && is state.before_that terminals.Ellipsis)

abbrev pub dollar_in_code : State → List Plain → ℕ → Terminal
dollar_in_code state plains at =
    if is_behind_rest state then terminals.Other
    else (if same (sort_at plains (code_from plains (at + 2))) sorts.Colon then terminals.DollarNamed
    else terminals.Dollar)

abbrev pub dollar_terminal : State → List Plain → ℕ → Terminal
dollar_terminal state plains at =
    if is_raw state.mode then terminals.Raw
    else (if is state.before terminals.OwnerDot && not (spaced_at plains at) then terminals.OwnerDollar
    else (if is_text state.mode then (if name_direct plains (at + 1) then terminals.Dollar else terminals.Raw)
    else dollar_in_code state plains at))

abbrev pub is_flag : Terminal → Bool
is_flag terminals.Default = true
is_flag terminals.Global = true
is_flag _ = false

-- flags end the value
abbrev pub takes_flags : Mode → Bool
takes_flags modes.Ends = true
takes_flags modes.BoundEnds = true
takes_flags _ = false

-- `!` before a flag or behind one
abbrev pub ends_value : State → List Plain → ℕ → Bool
ends_value state plains at =
    is_flag state.before || (same (next_sort plains at) sorts.Default || same (next_sort plains at) sorts.Global)

abbrev pub bang_terminal : State → List Plain → ℕ → Terminal
bang_terminal state plains at =
    if takes_flags state.mode && ends_value state plains at then terminals.Ending else or_raw state.mode terminals.Bang

-- a `#{` that goes on with no word
abbrev pub insert_in : State → List Plain → ℕ → Terminal
insert_in state plains at =
    elim (state.mode) as (λ _. Terminal) [
      | modes.Raw ↦ if names_rule state plains at then terminals.WordInsert else terminals.Insert
      | modes.Custom ↦ terminals.Insert
      | modes.Special ↦ terminals.Insert
      | modes.Text ↦ terminals.Insert
      | _ ↦ if is_apart state plains at then terminals.Other else terminals.WordInsert
    ]

abbrev pub insert_terminal : State → List Plain → ℕ → Terminal
insert_terminal state plains at = if continues state plains at then terminals.PartInsert else insert_in state plains at
