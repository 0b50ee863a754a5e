-- What a name is at its place (Sass specification, "Identifiers", "Statements"): a word, a constant or an operator, a
-- namespace, a name behind a sign, or a word of an at-rule's head.
use Rattle.std.specs.Prelude.{ℕ, ◌+◌, ◌==◌, Bool, true, false, not, ◌&&◌, ◌||◌, if◌then◌else◌, List}
use Rattle.sw_parse_terminals.specs.Numbers.{number_of}
use Rattle.sw_parse_terminals.specs.declared.terminal.Terminal.{Terminal}
use Rattle.sw_parse_terminals.specs.declared.terminal.Terminal.TheVariants as terminals
use Rattle.sw_parse_lexemes.specs.declared.sort.Sort.{Sort}
use Rattle.sw_parse_lexemes.specs.declared.sort.Sort.TheVariants as sorts
use Rattle.sw_parse_lexemes.specs.declared.plain.Plain.{Plain}
use Rattle.sw_parse_lexemes.specs.declared.state.Mode.{Mode}
use Rattle.sw_parse_lexemes.specs.declared.state.Mode.TheVariants as modes
use Rattle.sw_parse_lexemes.specs.declared.state.State.{State}
use Rattle.sw_parse_lexemes.specs.Classes.{is_reserved, same}
use Rattle.sw_parse_lexemes.specs.Ahead.{sort_at, spaced_at, is_direct, name_direct, code_from, next_sort, begins_word}

-- before or behind a terminal
abbrev pub is : Terminal → Terminal → Bool
is a b = number_of a == number_of b

-- the modes in which nothing but brackets and `#{}` is told apart
abbrev pub is_raw : Mode → Bool
is_raw modes.Raw = true
is_raw modes.Custom = true
is_raw _ = false

-- the word before goes on
abbrev pub continues : State → List Plain → ℕ → Bool
continues state plains at = state.word && not (spaced_at plains at)

-- white space stands behind the `.` of a namespace, where none may
abbrev pub is_apart : State → List Plain → ℕ → Bool
is_apart state plains at = is state.before terminals.OwnerDot && spaced_at plains at

-- behind the `$` of a variable
abbrev pub behind_dollar : Terminal → Bool
behind_dollar terminals.Dollar = true
behind_dollar terminals.DollarNamed = true
behind_dollar terminals.OwnerDollar = true
behind_dollar _ = false

-- behind a `!`
abbrev pub is_bang : Terminal → Bool
is_bang terminals.Bang = true
is_bang terminals.Ending = true
is_bang _ = false

-- a flag or `important` behind a `!`
abbrev pub behind_bang : Sort → Terminal
behind_bang sorts.Important = terminals.Important
behind_bang sorts.Default = terminals.Default
behind_bang sorts.Global = terminals.Global
behind_bang _ = terminals.Word

-- a constant, an operator or a word
abbrev pub constant_or_word : Sort → Terminal
constant_or_word sorts.True = terminals.True
constant_or_word sorts.False = terminals.False
constant_or_word sorts.Null = terminals.Null
constant_or_word sorts.And = terminals.And
constant_or_word sorts.Or = terminals.Or
constant_or_word sorts.Not = terminals.Not
constant_or_word _ = terminals.Word

abbrev pub is_special_name : Sort → Bool
is_special_name sorts.Special = true
is_special_name _ = false

-- behind a namespace a special function is one like others, and a `.` begins no other namespace
abbrev pub name_in_expression : State → List Plain → ℕ → Terminal
name_in_expression state plains at =
    if is_direct plains (at + 1) sorts.OpenInsert then terminals.Word
    else (if is state.before terminals.OwnerDot then constant_or_word (sort_at plains at)
    else (if is_direct plains (at + 1) sorts.Dot then terminals.Owner
    else (if is_special_name (sort_at plains at) && is_direct plains (at + 1) sorts.OpenParen then terminals.Special
    else constant_or_word (sort_at plains at))))

-- the names whose calls stay text in a special function, and those that are no words
abbrev pub stays_text : Sort → Bool
stays_text sorts.Special = true
stays_text sorts.Stays = true
stays_text sort = is_reserved sort

-- a namespace with a variable or a call
abbrev pub owns : List Plain → ℕ → Bool
owns plains at =
    is_direct plains (at + 1) sorts.Dot
    && ((is_direct plains (at + 2) sorts.Dollar && name_direct plains (at + 3))
    || (name_direct plains (at + 2) && is_direct plains (at + 3) sorts.OpenParen))

-- in a special function: a call, of no function that stays, or text
abbrev pub name_in_special : State → List Plain → ℕ → Terminal
name_in_special state plains at =
    if is state.before terminals.OwnerDot then terminals.Word
    else (if owns plains at then terminals.Owner
    else (if is_direct plains (at + 1) sorts.OpenParen && not (stays_text (sort_at plains at)) then terminals.Word
    else terminals.Raw))

-- the words of a load's head, behind its string
abbrev pub word_in_load : Sort → Terminal
word_in_load sorts.As = terminals.As
word_in_load sorts.With = terminals.With
word_in_load sorts.Show = terminals.Show
word_in_load sorts.Hide = terminals.Hide
word_in_load _ = terminals.Named

-- behind `show`, `hide` and the commas of their lists stand names of members
abbrev pub before_member : Terminal → Bool
before_member terminals.Show = true
before_member terminals.Hide = true
before_member terminals.Comma = true
before_member _ = false

abbrev pub name_in_use : State → Sort → Terminal
name_in_use state sort = if is state.before terminals.As then terminals.Named else word_in_load sort

-- behind the `as` of `@forward` stands a prefix
abbrev pub name_in_forward : State → Sort → Terminal
name_in_forward state sort =
    if is state.before terminals.As then terminals.Prefix
    else (if before_member state.before then terminals.Named
    else word_in_load sort)

abbrev pub using_or_named : Sort → Terminal
using_or_named sorts.Using = terminals.Using
using_or_named _ = terminals.Named

abbrev pub name_in_include : State → List Plain → ℕ → Terminal
name_in_include state plains at =
    if is state.before terminals.AtInclude
    then (if is_direct plains (at + 1) sorts.Dot then terminals.Owner else terminals.Named)
    else (if is state.before terminals.OwnerDot then terminals.Named
    else using_or_named (sort_at plains at))

-- `not` stands there, and no word that begins with it
abbrev pub is_not : List Plain → ℕ → Bool
is_not plains at = same (sort_at plains at) sorts.Not && not (is_direct plains (at + 1) sorts.OpenInsert)

-- `not` stands before a feature behind `and`, in a condition, and where a `(` follows
abbrev pub not_in_media : State → List Plain → ℕ → Terminal
not_in_media state plains at =
    if is state.before terminals.And
    || (is state.before terminals.ConditionParen || same (next_sort plains at) sorts.OpenParen)
    then terminals.Not
    else terminals.NotType

abbrev pub only_in_media : List Plain → ℕ → Terminal
only_in_media plains at = if begins_word plains (code_from plains (at + 1)) then terminals.Only else terminals.Word

abbrev pub is_only : Sort → Bool
is_only sorts.Only = true
is_only _ = false

-- a keyword or a constant is no word
abbrev pub keyword_in_media : State → List Plain → ℕ → Terminal
keyword_in_media state plains at =
    if same (sort_at plains at) sorts.Not then not_in_media state plains at
    else (if is_only (sort_at plains at) then only_in_media plains at
    else constant_or_word (sort_at plains at))

-- but where a `#{` follows directly, any name begins a word
abbrev pub name_in_media : State → List Plain → ℕ → Terminal
name_in_media state plains at =
    if is_direct plains (at + 1) sorts.OpenInsert then terminals.Word else keyword_in_media state plains at

abbrev pub is_in : Sort → Bool
is_in sorts.In = true
is_in _ = false

abbrev pub is_from : Sort → Bool
is_from sorts.From = true
is_from _ = false

abbrev pub name_in_each : State → Sort → Terminal
name_in_each state sort =
    if is state.before terminals.VariableName && is_in sort then terminals.In else terminals.Named

abbrev pub name_in_for : State → Sort → Terminal
name_in_for state sort =
    if is state.before terminals.VariableName && is_from sort then terminals.From else terminals.Named

-- `through` and `to` end the bounds of `@for`, but where they begin a word or a namespace
abbrev pub is_bound_end : List Plain → ℕ → Bool
is_bound_end plains at = not (is_direct plains (at + 1) sorts.OpenInsert || is_direct plains (at + 1) sorts.Dot)

abbrev pub name_in_bounds : State → List Plain → ℕ → Terminal
name_in_bounds state plains at =
    elim (sort_at plains at) as (λ _. Terminal) [
      | sorts.Through ↦ if is_bound_end plains at then terminals.Through else name_in_expression state plains at
      | sorts.To ↦ if is_bound_end plains at then terminals.To else name_in_expression state plains at
      | _ ↦ name_in_expression state plains at
    ]

abbrev pub name_in : State → List Plain → ℕ → Terminal
name_in state plains at =
    elim (state.mode) as (λ _. Terminal) [
      | modes.Special ↦ name_in_special state plains at
      | modes.CustomName ↦ terminals.Custom
      | modes.Use ↦ name_in_use state (sort_at plains at)
      | modes.Forward ↦ name_in_forward state (sort_at plains at)
      | modes.Head ↦ terminals.Named
      | modes.Include ↦ name_in_include state plains at
      | modes.Each ↦ name_in_each state (sort_at plains at)
      | modes.For ↦ name_in_for state (sort_at plains at)
      | modes.Bounds ↦ name_in_bounds state plains at
      | modes.BoundEnds ↦ name_in_bounds state plains at
      | modes.Else ↦ terminals.If
      | modes.Media ↦ name_in_media state plains at
      | _ ↦ name_in_expression state plains at
    ]

-- a name behind a sign that it belongs to
abbrev pub behind_sign : State → List Plain → ℕ → Terminal
behind_sign state plains at =
    if not (spaced_at plains at) && behind_dollar state.before then terminals.VariableName
    else (if not (spaced_at plains at) && is state.before terminals.Hash then terminals.HashName
    else (if is_bang state.before then behind_bang (sort_at plains at)
    else (if is_apart state plains at then terminals.Other
    else name_in state plains at)))

abbrev pub name_terminal : State → List Plain → ℕ → Terminal
name_terminal state plains at =
    if continues state plains at then terminals.Part
    else (if is_raw state.mode then terminals.Raw
    else behind_sign state plains at)
