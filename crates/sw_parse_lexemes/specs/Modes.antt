-- How a statement is read, by its first tokens (Sass specification, "Statements").
use Rattle.std.specs.Prelude.{ℕ, ◌+◌, Bool, not, ◌&&◌, ◌||◌, if◌then◌else◌, List}
use Rattle.sw_parse_lexemes.specs.declared.sort.Sort.TheVariants as sorts
use Rattle.sw_parse_lexemes.specs.declared.plain.Plain.{Plain}
use Rattle.sw_parse_lexemes.specs.declared.state.Mode.{Mode}
use Rattle.sw_parse_lexemes.specs.declared.state.Mode.TheVariants as modes
use Rattle.sw_parse_lexemes.specs.Classes.{is_name, starts_name, same}
use Rattle.sw_parse_lexemes.specs.Ahead.{sort_at, spaced_at, is_direct, code_from, opens_block, begins_word, behind_first}

-- a name start, `#{` or a second `:` stands directly behind the token before
abbrev pub begins_pseudo : List Plain → ℕ → Bool
begins_pseudo plains at =
    not (spaced_at plains at)
    && (starts_name (sort_at plains at)
    || (same (sort_at plains at) sorts.OpenInsert || same (sort_at plains at) sorts.Colon))

-- a statement that begins with a word and a `:` at a place is a rule
abbrev pub is_rule : List Plain → ℕ → Bool
is_rule plains colon = begins_pseudo plains (colon + 1) && opens_block plains (colon + 1)

-- a statement that begins with a word, behind which stands the token at a place
abbrev pub declared_mode : List Plain → ℕ → Mode
declared_mode plains colon =
    if same (sort_at plains colon) sorts.Colon && not (is_rule plains colon) then modes.Expression else modes.Raw

-- the same of a word that begins with `--`
abbrev pub custom_mode : List Plain → ℕ → Mode
custom_mode plains colon = if same (sort_at plains colon) sorts.Colon then modes.CustomName else modes.Raw

-- a statement that begins neither with `$` nor with an at-keyword
abbrev pub plain_mode : List Plain → ℕ → Mode
plain_mode plains at =
    if is_name (sort_at plains at) && is_direct plains (at + 1) sorts.Dot
    then (if is_direct plains (at + 2) sorts.Dollar then modes.Ends else modes.Raw)
    else (if begins_word plains at then declared_mode plains (code_from plains (behind_first plains at))
    else modes.Raw)

-- an at-rule whose name a `#{` follows directly is no other than an unknown one
abbrev pub head_mode : List Plain → ℕ → Mode → Mode
head_mode plains at mode = if is_direct plains (at + 1) sorts.OpenInsert then modes.Raw else mode

-- how a statement that begins at a place is read
unfoldable pub statement_mode : List Plain → ℕ → Mode
statement_mode plains at =
    elim (sort_at plains at) as (λ _. Mode) [
      | sorts.Dollar ↦ modes.Ends
      | sorts.DashedName ↦ custom_mode plains (code_from plains (behind_first plains at))
      | sorts.At ↦ modes.Raw
      | sorts.AtUse ↦ head_mode plains at modes.Use
      | sorts.AtForward ↦ head_mode plains at modes.Forward
      | sorts.AtFunction ↦ head_mode plains at modes.Head
      | sorts.AtMixin ↦ head_mode plains at modes.Head
      | sorts.AtInclude ↦ head_mode plains at modes.Include
      | sorts.AtContent ↦ head_mode plains at modes.Content
      | sorts.AtReturn ↦ head_mode plains at modes.Expression
      | sorts.AtWarn ↦ head_mode plains at modes.Expression
      | sorts.AtDebug ↦ head_mode plains at modes.Expression
      | sorts.AtError ↦ head_mode plains at modes.Expression
      | sorts.AtIf ↦ head_mode plains at modes.Expression
      | sorts.AtElse ↦ head_mode plains at modes.Else
      | sorts.AtElseIf ↦ head_mode plains at modes.Expression
      | sorts.AtEach ↦ head_mode plains at modes.Each
      | sorts.AtFor ↦ head_mode plains at modes.For
      | sorts.AtWhile ↦ head_mode plains at modes.Expression
      | sorts.AtMedia ↦ head_mode plains at modes.Media
      | sorts.AtCharset ↦ head_mode plains at modes.Expression
      | _ ↦ plain_mode plains at
    ]
