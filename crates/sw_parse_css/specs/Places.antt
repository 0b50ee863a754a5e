-- The terminal of a token of plain CSS at its place, and the state behind it: what is open there, and how the statement
-- began. This project's own way to say where a prelude, a value or a block begins.
use Rattle.std.specs.Prelude.{ℕ, ◌-◌, Bool, true, false, not, ◌&&◌, ◌||◌, if◌then◌else◌, List, [], ◌∷◌, ◌++◌, length, take, Option, Some, None, slice_get}
use Rattle.sw_parse_terminals.specs.declared.terminal.Terminal.{Terminal}
use Rattle.sw_parse_terminals.specs.declared.terminal.Terminal.TheVariants as terminals
use Rattle.sw_parse_css.specs.declared.state.Sort.{Sort}
use Rattle.sw_parse_css.specs.declared.state.Sort.TheVariants as sorts
use Rattle.sw_parse_css.specs.declared.state.Bracket.{Bracket}
use Rattle.sw_parse_css.specs.declared.state.Bracket.TheVariants as brackets
use Rattle.sw_parse_css.specs.declared.state.State.{State}

-- what is innermost of all that is open
abbrev pub innermost : List Bracket → Option Bracket
innermost frames = slice_get frames (length frames - 1)

-- statements stand in a rule
abbrev pub is_rule : Option Bracket → Bool
is_rule (Some brackets.Rule) = true
is_rule _ = false

-- no bracket is open in the statement
abbrev pub is_outer : Option Bracket → Bool
is_outer None = true
is_outer (Some brackets.Group) = true
is_outer (Some brackets.Rule) = true
is_outer _ = false

-- a `)` or `]` that closes nothing is a character of text, but not of a custom property
abbrev pub stray : Bool → Terminal
stray custom = if custom then terminals.Other else terminals.Raw

abbrev pub close_paren : Bool → Option Bracket → Terminal
close_paren custom (Some brackets.Paren) = terminals.RawParenEnd
close_paren custom _ = stray custom

abbrev pub close_bracket : Bool → Option Bracket → Terminal
close_bracket custom (Some brackets.Bracket) = terminals.RawBracketEnd
close_bracket custom _ = stray custom

-- braces and `;` in other brackets are text; in a custom property braces are brackets
abbrev pub open_brace : Bool → Option Bracket → Terminal
open_brace custom inner =
    if custom then terminals.RawBrace else (if is_outer inner then terminals.Open else terminals.Raw)

abbrev pub close_brace : Bool → Option Bracket → Terminal
close_brace custom (Some brackets.Brace) = terminals.RawBraceEnd
close_brace custom inner = if is_outer inner then terminals.Close else stray custom

abbrev pub semicolon : Option Bracket → Terminal
semicolon inner = if is_outer inner then terminals.Semicolon else terminals.Raw

-- a token of text, in a custom property or elsewhere
abbrev pub raw_terminal : Bool → Option Bracket → Sort → Terminal
raw_terminal custom inner sorts.Name = terminals.Raw
raw_terminal custom inner sorts.DashedName = terminals.Raw
raw_terminal custom inner sorts.NameLike = terminals.Raw
raw_terminal custom inner sorts.AtCharset = terminals.Raw
raw_terminal custom inner sorts.AtImport = terminals.Raw
raw_terminal custom inner sorts.AtName = terminals.Raw
raw_terminal custom inner sorts.At = terminals.Raw
raw_terminal custom inner sorts.Comment = terminals.Raw
raw_terminal custom inner sorts.Quoted = terminals.Raw
raw_terminal custom inner sorts.OpenBrace = open_brace custom inner
raw_terminal custom inner sorts.CloseBrace = close_brace custom inner
raw_terminal custom inner sorts.OpenParen = terminals.RawParen
raw_terminal custom inner sorts.CloseParen = close_paren custom inner
raw_terminal custom inner sorts.OpenBracket = terminals.RawBracket
raw_terminal custom inner sorts.CloseBracket = close_bracket custom inner
raw_terminal custom inner sorts.Colon = terminals.Raw
raw_terminal custom inner sorts.Semicolon = semicolon inner
raw_terminal custom inner sorts.Wrong = terminals.Other
raw_terminal custom inner sorts.Other = terminals.Raw

-- the first token of a statement; in a rule none begins with a selector
abbrev pub start_terminal : Option Bracket → Sort → Terminal
start_terminal inner sorts.Name = terminals.Word
start_terminal inner sorts.DashedName = terminals.Custom
start_terminal inner sorts.AtCharset = terminals.AtCharset
start_terminal inner sorts.AtImport = terminals.AtImport
start_terminal inner sorts.AtName = terminals.AtOther
start_terminal inner sorts.At = terminals.AtInsert
start_terminal inner sorts.Comment = terminals.CommentWhole
start_terminal inner sorts.CloseBrace = terminals.Close
start_terminal inner sorts.Semicolon = terminals.Semicolon
start_terminal inner sort = if is_rule inner then terminals.Other else raw_terminal false inner sort

-- behind the name with which the statement begins
abbrev pub is_named : Terminal → Bool
is_named terminals.Word = true
is_named terminals.Custom = true
is_named _ = false

abbrev pub is_custom : Terminal → Bool
is_custom terminals.Custom = true
is_custom _ = false

abbrev pub is_colon : Terminal → Bool
is_colon terminals.Colon = true
is_colon _ = false

abbrev pub is_charset : Terminal → Bool
is_charset terminals.AtCharset = true
is_charset _ = false

abbrev pub is_at_rule : Terminal → Bool
is_at_rule terminals.AtOther = true
is_at_rule _ = false

-- what begins with the first character of a name, and the second `:` of a pseudo-element
abbrev pub begins_pseudo : Sort → Bool
begins_pseudo sorts.Name = true
begins_pseudo sorts.DashedName = true
begins_pseudo sorts.NameLike = true
begins_pseudo sorts.Colon = true
begins_pseudo _ = false

-- directly behind the `:` of a name, outside rules, where a selector may stand
abbrev pub is_pseudo : State → Bool → Sort → Bool
is_pseudo state spaced sort =
    (is_colon state.before && not state.custom)
    && (not (is_rule (innermost state.frames)) && (not spaced && begins_pseudo sort))

abbrev pub text_terminal : State → Bool → Sort → Terminal
text_terminal state spaced sort =
    if is_pseudo state spaced sort
    then terminals.Part
    else raw_terminal state.custom (innermost state.frames) sort

-- a further token of a statement, and whether white space or a comment stands before it
abbrev pub further_terminal : State → Bool → Sort → Terminal
further_terminal state spaced sorts.Colon =
    if is_named state.before then terminals.Colon else text_terminal state spaced sorts.Colon
further_terminal state spaced sorts.Quoted =
    if is_charset state.before then terminals.Plain else text_terminal state spaced sorts.Quoted
further_terminal state spaced sort = text_terminal state spaced sort

unfoldable pub terminal_of : State → Bool → Sort → Terminal
terminal_of state spaced sort =
    if state.start then start_terminal (innermost state.frames) sort else further_terminal state spaced sort

abbrev pub is_comment : Sort → Bool
is_comment sorts.Comment = true
is_comment _ = false

-- a comment in a statement is white space
abbrev pub is_white : State → Sort → Bool
is_white state sort = not state.start && is_comment sort

abbrev pub begins_statement : Terminal → Bool
begins_statement terminals.Semicolon = true
begins_statement terminals.Open = true
begins_statement terminals.Close = true
begins_statement terminals.CommentWhole = true
begins_statement _ = false

-- the block that a `{` opens: rules stand in that of an at-rule that stands in no rule
abbrev pub block_of : State → Bracket
block_of state = if state.at_rule && not (is_rule (innermost state.frames)) then brackets.Group else brackets.Rule

-- what a terminal opens
abbrev pub opened_by : State → Terminal → Option Bracket
opened_by state terminals.Open = Some (block_of state)
opened_by state terminals.RawParen = Some brackets.Paren
opened_by state terminals.RawBracket = Some brackets.Bracket
opened_by state terminals.RawBrace = Some brackets.Brace
opened_by state _ = None

-- the terminals that close the innermost
abbrev pub closes : Terminal → Bool
closes terminals.Close = true
closes terminals.RawParenEnd = true
closes terminals.RawBracketEnd = true
closes terminals.RawBraceEnd = true
closes _ = false

abbrev pub frames_after : List Bracket → Terminal → Option Bracket → List Bracket
frames_after frames terminal (Some bracket) = frames ++ bracket ∷ []
frames_after frames terminal None = if closes terminal then take (length frames - 1) frames else frames

-- the state behind a token of a terminal; a custom property's text begins behind its `:`
unfoldable pub after : State → Terminal → State
after state terminal = record {
  frames = frames_after state.frames terminal (opened_by state terminal);
  start = begins_statement terminal;
  at_rule = if state.start then is_at_rule terminal else state.at_rule;
  custom = not (begins_statement terminal) && (state.custom || (is_custom state.before && is_colon terminal));
  before = terminal;
  commented = false;
}

-- the same behind a comment that is white space
unfoldable pub past_white : State → State
past_white state = record state { commented = true }

-- nothing is read yet, and a statement may begin
abbrev pub beginning : State
beginning = record {
  frames = [];
  start = true;
  at_rule = false;
  custom = false;
  before = terminals.Semicolon;
  commented = false;
}
