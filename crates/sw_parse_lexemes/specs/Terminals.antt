-- The terminal of the token at a place, by what is known before it. The mode is that of its statement.
use Rattle.std.specs.Prelude.{ℕ, ◌+◌, nat_lt, Bool, true, false, ◌&&◌, ◌||◌, if◌then◌else◌, List}
use Rattle.sw_parse_terminals.specs.declared.terminal.Terminal.{Terminal}
use Rattle.sw_parse_terminals.specs.declared.terminal.Terminal.TheVariants as terminals
use Rattle.sw_parse_lexemes.specs.declared.sort.Sort.TheVariants as sorts
use Rattle.sw_parse_lexemes.specs.declared.plain.Plain.{Plain}
use Rattle.sw_parse_lexemes.specs.declared.state.Mode.{Mode}
use Rattle.sw_parse_lexemes.specs.declared.state.State.{State}
use Rattle.sw_parse_lexemes.specs.Classes.{same}
use Rattle.sw_parse_lexemes.specs.Ahead.{sort_at, length_at, is_direct, next_sort}
use Rattle.sw_parse_lexemes.specs.Names.{is_raw, continues, name_terminal}
use Rattle.sw_parse_lexemes.specs.Signs.{is_text, or_raw, by_operand, plus_terminal, minus_terminal, star_terminal, comma_terminal, dot_terminal, dollar_terminal, bang_terminal, insert_terminal}
use Rattle.sw_parse_lexemes.specs.Brackets.{paren_terminal, bracket_terminal, innermost, closes_paren, closes_bracket, open_brace, close_brace, semicolon}

abbrev pub number_terminal : Mode → Terminal
number_terminal mode = if is_raw mode then terminals.Raw else terminals.Number

-- digits may go on with a word
abbrev pub digits_terminal : State → List Plain → ℕ → Terminal
digits_terminal state plains at = if continues state plains at then terminals.Part else number_terminal state.mode

-- the string of a load that no `as` follows must give a default namespace
abbrev pub loaded_url : List Plain → ℕ → Bool → Terminal
loaded_url plains at named = if named || same (next_sort plains at) sorts.As then terminals.LoadUrl else terminals.Other

abbrev pub string_in_code : State → List Plain → ℕ → Bool → Terminal
string_in_code state plains at named =
    elim (state.before) as (λ _. Terminal) [
      | terminals.AtCharset ↦ terminals.Plain
      | terminals.AtForward ↦ terminals.LoadUrl
      | terminals.AtUse ↦ loaded_url plains at named
      | _ ↦ terminals.Quoted
    ]

abbrev pub string_terminal : State → List Plain → ℕ → Bool → Terminal
string_terminal state plains at named =
    if is_text state.mode then terminals.Raw else string_in_code state plains at named

-- a `#{` directly behind an at-keyword belongs to its name, but not one behind a sign that stands for a keyword
abbrev pub goes_on : List Plain → ℕ → Bool
goes_on plains at = nat_lt 1 (length_at plains at) && is_direct plains (at + 1) sorts.OpenInsert

-- an at-keyword begins a statement, and one whose name goes on with a `#{` an unknown at-rule
abbrev pub at_terminal : State → List Plain → ℕ → Terminal → Terminal
at_terminal state plains at terminal =
    if state.start then (if goes_on plains at then terminals.AtOther else terminal)
    else or_raw state.mode terminals.Other

-- `@else` before `if`, or before a block
abbrev pub else_terminal : List Plain → ℕ → Terminal
else_terminal plains at = if same (next_sort plains at) sorts.If then terminals.AtElseIf else terminals.AtElse

-- `@` without a name directly behind it begins an at-rule whose name is a `#{`
abbrev pub lone_at : State → Terminal
lone_at state = if state.start then terminals.AtInsert else or_raw state.mode terminals.Other

unfoldable pub terminal_of : State → List Plain → ℕ → Terminal
terminal_of state plains at =
    elim (sort_at plains at) as (λ _. Terminal) [
      | sorts.Digits ↦ digits_terminal state plains at
      | sorts.Number ↦ number_terminal state.mode
      | sorts.Hex ↦ or_raw state.mode terminals.HashName
      | sorts.Quoted ↦ string_terminal state plains at true
      | sorts.Unnamed ↦ string_terminal state plains at false
      | sorts.Template ↦ or_raw state.mode terminals.Template
      | sorts.Text ↦ or_raw state.mode terminals.TextPiece
      | sorts.TemplateEnd ↦ or_raw state.mode terminals.TemplateEnd
      | sorts.Url ↦ or_raw state.mode terminals.Url
      | sorts.UrlTemplate ↦ or_raw state.mode terminals.UrlTemplate
      | sorts.Piece ↦ or_raw state.mode terminals.Piece
      | sorts.UrlEnd ↦ or_raw state.mode terminals.UrlEnd
      | sorts.Comment ↦ terminals.CommentWhole
      | sorts.CommentTemplate ↦ terminals.CommentTemplate
      | sorts.CommentEnd ↦ terminals.CommentEnd
      | sorts.Range ↦ or_raw state.mode terminals.Range
      | sorts.OpenInsert ↦ insert_terminal state plains at
      | sorts.CloseInsert ↦ terminals.InsertEnd
      | sorts.OpenBrace ↦ open_brace state.mode (innermost state.frames) (length_at plains at)
      | sorts.CloseBrace ↦ close_brace state.mode (innermost state.frames)
      | sorts.OpenParen ↦ paren_terminal state plains at
      | sorts.CloseParen ↦ closes_paren state.mode (innermost state.frames)
      | sorts.OpenBracket ↦ bracket_terminal state.mode
      | sorts.CloseBracket ↦ closes_bracket state.mode (innermost state.frames)
      | sorts.Colon ↦ or_raw state.mode terminals.Colon
      | sorts.Semicolon ↦ semicolon state.mode (innermost state.frames)
      | sorts.Comma ↦ comma_terminal state.mode
      | sorts.Dot ↦ dot_terminal state plains at
      | sorts.Ellipsis ↦ or_raw state.mode terminals.Ellipsis
      | sorts.Dollar ↦ dollar_terminal state plains at
      | sorts.Hash ↦ or_raw state.mode terminals.Hash
      | sorts.Exclamation ↦ bang_terminal state plains at
      | sorts.Ampersand ↦ or_raw state.mode terminals.Ampersand
      | sorts.Plus ↦ plus_terminal state plains at
      | sorts.Minus ↦ minus_terminal state plains at
      | sorts.Star ↦ star_terminal state plains at
      | sorts.Slash ↦ or_raw state.mode (by_operand state terminals.Divide terminals.PrefixSlash)
      | sorts.Percent ↦ or_raw state.mode terminals.Modulo
      | sorts.Equals ↦ or_raw state.mode terminals.Equals
      | sorts.EqualsEquals ↦ or_raw state.mode terminals.Equal
      | sorts.NotEquals ↦ or_raw state.mode terminals.NotEqual
      | sorts.Less ↦ or_raw state.mode terminals.Less
      | sorts.LessEquals ↦ or_raw state.mode terminals.LessEqual
      | sorts.Greater ↦ or_raw state.mode terminals.Greater
      | sorts.GreaterEquals ↦ or_raw state.mode terminals.GreaterEqual
      | sorts.At ↦ lone_at state
      | sorts.AtUse ↦ at_terminal state plains at terminals.AtUse
      | sorts.AtForward ↦ at_terminal state plains at terminals.AtForward
      | sorts.AtFunction ↦ at_terminal state plains at terminals.AtFunction
      | sorts.AtMixin ↦ at_terminal state plains at terminals.AtMixin
      | sorts.AtInclude ↦ at_terminal state plains at terminals.AtInclude
      | sorts.AtContent ↦ at_terminal state plains at terminals.AtContent
      | sorts.AtReturn ↦ at_terminal state plains at terminals.AtReturn
      | sorts.AtWarn ↦ at_terminal state plains at terminals.AtWarn
      | sorts.AtDebug ↦ at_terminal state plains at terminals.AtDebug
      | sorts.AtError ↦ at_terminal state plains at terminals.AtError
      | sorts.AtIf ↦ at_terminal state plains at terminals.AtIf
      | sorts.AtElse ↦ at_terminal state plains at (else_terminal plains at)
      | sorts.AtElseIf ↦ at_terminal state plains at terminals.AtElseIfWhole
      | sorts.AtEach ↦ at_terminal state plains at terminals.AtEach
      | sorts.AtFor ↦ at_terminal state plains at terminals.AtFor
      | sorts.AtWhile ↦ at_terminal state plains at terminals.AtWhile
      | sorts.AtMedia ↦ at_terminal state plains at terminals.AtMedia
      | sorts.AtSupports ↦ at_terminal state plains at terminals.AtSupports
      | sorts.AtRoot ↦ at_terminal state plains at terminals.AtRoot
      | sorts.AtCharset ↦ at_terminal state plains at terminals.AtCharset
      | sorts.AtImport ↦ at_terminal state plains at terminals.AtImport
      | sorts.AtExtend ↦ at_terminal state plains at terminals.AtExtend
      | sorts.AtName ↦ at_terminal state plains at terminals.AtOther
      | sorts.Other ↦ or_raw state.mode terminals.Other
      | _ ↦ name_terminal state plains at
    ]
