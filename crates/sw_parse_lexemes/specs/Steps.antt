-- What comes of a token: the state behind one of a terminal, or behind a comment that is white space.
use Rattle.std.specs.Prelude.{ℕ, zero, suc, ◌+◌, ◌-◌, Bool, true, false, not, ◌&&◌, ◌||◌, if◌then◌else◌, List, [], ◌∷◌, ◌++◌, length, take, Option, Some, None}
use Rattle.sw_parse_terminals.specs.declared.terminal.Terminal.{Terminal}
use Rattle.sw_parse_terminals.specs.declared.terminal.Terminal.TheVariants as terminals
use Rattle.sw_parse_lexemes.specs.declared.sort.Sort.{Sort}
use Rattle.sw_parse_lexemes.specs.declared.sort.Sort.TheVariants as sorts
use Rattle.sw_parse_lexemes.specs.declared.plain.Plain.{Plain}
use Rattle.sw_parse_lexemes.specs.declared.state.Mode.{Mode}
use Rattle.sw_parse_lexemes.specs.declared.state.Mode.TheVariants as modes
use Rattle.sw_parse_lexemes.specs.declared.state.Bracket.{Bracket}
use Rattle.sw_parse_lexemes.specs.declared.state.Bracket.TheVariants as brackets
use Rattle.sw_parse_lexemes.specs.declared.state.Frame.{Frame}
use Rattle.sw_parse_lexemes.specs.declared.state.Comments.{Comments}
use Rattle.sw_parse_lexemes.specs.declared.state.Comments.TheVariants as comment
use Rattle.sw_parse_lexemes.specs.declared.state.State.{State}
use Rattle.sw_parse_lexemes.specs.Classes.{is_comment, is_else}
use Rattle.sw_parse_lexemes.specs.Ahead.{sort_at, code_from}
use Rattle.sw_parse_lexemes.specs.Modes.{statement_mode}
use Rattle.sw_parse_lexemes.specs.Names.{is}
use Rattle.sw_parse_lexemes.specs.Brackets.{innermost}

-- what a terminal opens
abbrev pub opened_by : Terminal → Option Bracket
opened_by terminals.Open = Some brackets.Block
opened_by terminals.RawParen = Some brackets.Paren
opened_by terminals.Paren = Some brackets.Paren
opened_by terminals.ConditionParen = Some brackets.Paren
opened_by terminals.CallParen = Some brackets.Paren
opened_by terminals.HeadParen = Some brackets.Paren
opened_by terminals.RawBracket = Some brackets.Bracket
opened_by terminals.Bracket = Some brackets.Bracket
opened_by terminals.RawBrace = Some brackets.Brace
opened_by terminals.Insert = Some brackets.Insert
opened_by terminals.WordInsert = Some brackets.Insert
opened_by terminals.PartInsert = Some brackets.Insert
opened_by terminals.Template = Some brackets.Text
opened_by terminals.UrlTemplate = Some brackets.Text
opened_by terminals.CommentTemplate = Some brackets.Text
opened_by _ = None

-- the terminals that close the innermost
abbrev pub closes : Terminal → Bool
closes terminals.Close = true
closes terminals.RawParenEnd = true
closes terminals.RawBracketEnd = true
closes terminals.RawBraceEnd = true
closes terminals.ParenEnd = true
closes terminals.BracketEnd = true
closes terminals.TemplateEnd = true
closes terminals.UrlEnd = true
closes terminals.CommentEnd = true
closes _ = false

-- how tokens are read behind an opening one
abbrev pub inner_mode : Mode → Terminal → Mode
inner_mode modes.Raw terminals.RawParen = modes.Raw
inner_mode modes.Custom terminals.RawParen = modes.Custom
inner_mode _ terminals.RawParen = modes.Special
inner_mode mode terminals.RawBracket = mode
inner_mode mode terminals.RawBrace = mode
inner_mode modes.Media terminals.ConditionParen = modes.Media
inner_mode modes.Forward terminals.HeadParen = modes.Ends
inner_mode modes.Head terminals.HeadParen = modes.Params
inner_mode modes.Include terminals.HeadParen = modes.Params
inner_mode _ terminals.Template = modes.Text
inner_mode _ terminals.UrlTemplate = modes.Text
inner_mode _ terminals.CommentTemplate = modes.Text
inner_mode _ _ = modes.Expression

-- how tokens are read behind one that opens and closes nothing
abbrev pub further_mode : Mode → Terminal → Mode
further_mode modes.Each terminals.In = modes.Expression
further_mode modes.For terminals.From = modes.Bounds
further_mode modes.Else terminals.If = modes.Expression
further_mode modes.CustomName terminals.Colon = modes.Custom
further_mode mode _ = mode

-- a `#{` is innermost, or nothing is open
abbrev pub is_inserting : Option Frame → Bool
is_inserting None = true
is_inserting (Some frame) = elim (frame.bracket) as (λ _. Bool) [ brackets.Insert ↦ true | _ ↦ false ]

-- the frames up to the innermost `#{`
abbrev pub below_insert : ℕ → List Frame → List Frame
below_insert zero frames = frames
below_insert (suc n) frames =
    if is_inserting (innermost frames) then frames else below_insert n (take (length frames - 1) frames)

abbrev pub begins_statement : Terminal → Bool
begins_statement terminals.Semicolon = true
begins_statement terminals.Open = true
begins_statement terminals.Close = true
begins_statement terminals.CommentWhole = true
begins_statement terminals.CommentEnd = true
begins_statement _ = false

-- a word may go on behind it
abbrev pub in_word : Terminal → Bool
in_word terminals.Word = true
in_word terminals.Part = true
in_word terminals.AtOther = true
in_word terminals.Custom = true
in_word _ = false

-- the `#{` that is closed belongs to a word
abbrev pub from_word : Option Frame → Bool
from_word None = false
from_word (Some frame) = is frame.opened terminals.WordInsert || is frame.opened terminals.PartInsert

-- how tokens were read before what is closed
abbrev pub mode_of : Option Frame → Mode → Mode
mode_of None mode = mode
mode_of (Some frame) mode = frame.mode

-- behind a token of a terminal no comment is open that is white space
abbrev pub stepped : State → Mode → Bool → Terminal → State
stepped state mode word terminal = record state {
  mode = mode;
  start = begins_statement terminal;
  word = word;
  before = terminal;
  before_that = state.before;
  ignored = 0;
  commented = false;
}

abbrev pub opened : State → Bracket → Terminal → State
opened state bracket terminal =
    record state { frames = state.frames ++ record { bracket = bracket; opened = terminal; mode = state.mode } ∷ [] }

-- the innermost frame is closed
abbrev pub popped : State → Terminal → State
popped state terminal =
    stepped (record state { frames = take (length state.frames - 1) state.frames })
    (mode_of (innermost state.frames) state.mode)
    (is terminal terminals.InsertEnd && from_word (innermost state.frames)) terminal

-- a `#{` is closed, and what was opened in it and isn't closed
abbrev pub inserted : State → State
inserted state = record state { frames = below_insert (length state.frames) state.frames }

abbrev pub after_opening : State → Terminal → Option Bracket → State
after_opening state terminal (Some bracket) =
    stepped (opened state bracket terminal) (inner_mode state.mode terminal) false terminal
after_opening state terminal None =
    if is terminal terminals.InsertEnd then popped (inserted state) terminal
    else (if closes terminal then popped state terminal
    else stepped state (further_mode state.mode terminal) (in_word terminal) terminal)

-- a terminal neither opens nor closes anything
abbrev pub passes : Terminal → Bool
passes terminals.Open = false
passes terminals.Close = false
passes terminals.RawParen = false
passes terminals.RawBracket = false
passes terminals.RawBrace = false
passes terminals.Insert = false
passes terminals.RawParenEnd = false
passes terminals.RawBracketEnd = false
passes terminals.RawBraceEnd = false
passes terminals.InsertEnd = false
passes terminals.TemplateEnd = false
passes terminals.UrlEnd = false
passes terminals.CommentEnd = false
passes terminals.Template = false
passes terminals.UrlTemplate = false
passes terminals.WordInsert = false
passes terminals.Paren = false
passes terminals.ConditionParen = false
passes terminals.Bracket = false
passes terminals.PartInsert = false
passes terminals.CallParen = false
passes terminals.ParenEnd = false
passes terminals.BracketEnd = false
passes terminals.CommentTemplate = false
passes terminals.HeadParen = false
passes _ = true

-- tokens are read in the same mode behind each of these
abbrev pub stays : Mode → Bool
stays modes.Each = false
stays modes.For = false
stays modes.Else = false
stays modes.CustomName = false
stays _ = true

-- the state behind a token of a terminal
unfoldable pub after : State → Terminal → State
after state terminal = after_opening state terminal (opened_by terminal)

-- where a statement may begin: comments are white space where `@else` follows all of them
abbrev pub judged : List Plain → ℕ → Comments
judged plains at = if is_else (sort_at plains (code_from plains at)) then comment.White else comment.Statements

abbrev pub comments_by : Comments → List Plain → ℕ → Comments
comments_by comment.Unknown plains at = judged plains at
comments_by known plains at = known

-- of all in a row the first tells
abbrev pub comments_at : Comments → List Plain → ℕ → Comments
comments_at known plains at = if is_comment (sort_at plains at) then comments_by known plains at else comment.Unknown

-- at the start of a statement tokens are read as its form says
unfoldable pub placed : State → List Plain → ℕ → State
placed state plains at =
    if state.start
    then record state { mode = statement_mode plains at; comments = comments_at state.comments plains at }
    else state

abbrev pub are_white : Comments → Bool
are_white comment.White = true
are_white _ = false

-- a comment that is white space: within a statement, or before `@else`
abbrev pub is_white : State → List Plain → ℕ → Bool
is_white state plains at = is_comment (sort_at plains at) && (not state.start || are_white state.comments)

-- how many comments are open behind a token that is white space
abbrev pub ignored_after : ℕ → Sort → ℕ
ignored_after n sorts.CommentTemplate = n + 1
ignored_after n sorts.CommentEnd = n - 1
ignored_after n _ = n

-- the state behind a comment that is white space, or a part of one
unfoldable pub past_white : State → Sort → State
past_white state sort = record state { ignored = ignored_after state.ignored sort; commented = true }
