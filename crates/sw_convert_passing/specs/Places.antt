-- Where a value may begin, where one may end, and what tokens are where they stand so.
use Rattle.std.specs.Prelude.{◌≡◌, ℕ, Bool, true, false, not, ◌&&◌, ◌||◌, List}
use Rattle.sw_parse_terminals.specs.declared.terminal.Terminal.{Terminal}
use Rattle.sw_parse_terminals.specs.declared.terminal.Terminal.TheVariants as terminals
use Rattle.sw_parse_terminals.specs.declared.lexeme.Lexeme.{Lexeme}
use Rattle.sw_parse_lexemes.specs.declared.sort.Sort.{Sort}
use Rattle.sw_parse_lexemes.specs.declared.sort.Sort.TheVariants as sorts
use Rattle.sw_parse_lexemes.specs.declared.plain.Plain.{Plain}
use Rattle.sw_parse_lexemes.specs.declared.state.Mode.{Mode}
use Rattle.sw_parse_lexemes.specs.declared.state.Mode.TheVariants as modes
use Rattle.sw_parse_lexemes.specs.declared.state.Frame.{Frame}
use Rattle.sw_parse_lexemes.specs.declared.state.State.{State}
use Rattle.sw_parse_lexemes.specs.Ahead.{sort_at, spaced_at}
use Rattle.sw_parse_lexemes.specs.Signs.{ends_operand, is_behind_rest}
use Rattle.sw_convert_passing.specs.Written.{Written, Passed, Within}

-- the modes of values
abbrev pub is_value : Mode → Bool
is_value modes.Expression = true
is_value modes.Ends = true
is_value modes.Bounds = true
is_value modes.BoundEnds = true
is_value modes.Params = true
is_value _ = false

-- between the items of a list, and behind the name of an argument or the key of a pair
abbrev pub separates : Terminal → Bool
separates terminals.Comma = true
separates terminals.Colon = true
separates terminals.Ellipsis = true
separates _ = false

-- the terminals behind which a value may begin
abbrev pub may_precede : Terminal → Bool
may_precede terminals.Semicolon = true
may_precede terminals.Paren = true
may_precede terminals.ConditionParen = true
may_precede terminals.Bracket = true
may_precede terminals.CallParen = true
may_precede terminals.HeadParen = true
may_precede terminals.Insert = true
may_precede terminals.WordInsert = true
may_precede terminals.PartInsert = true
may_precede terminals.Not = true
may_precede terminals.PrefixPlus = true
may_precede terminals.PrefixMinus = true
may_precede terminals.PrefixSlash = true
may_precede terminals.Or = true
may_precede terminals.And = true
may_precede terminals.Equal = true
may_precede terminals.NotEqual = true
may_precede terminals.Less = true
may_precede terminals.LessEqual = true
may_precede terminals.Greater = true
may_precede terminals.GreaterEqual = true
may_precede terminals.Equals = true
may_precede terminals.Plus = true
may_precede terminals.Minus = true
may_precede terminals.Times = true
may_precede terminals.Divide = true
may_precede terminals.Modulo = true
may_precede terminals.AtReturn = true
may_precede terminals.AtWarn = true
may_precede terminals.AtDebug = true
may_precede terminals.AtError = true
may_precede terminals.AtIf = true
may_precede terminals.AtElseIfWhole = true
may_precede terminals.AtWhile = true
may_precede terminals.If = true
may_precede terminals.In = true
may_precede terminals.From = true
may_precede terminals.Through = true
may_precede terminals.To = true
may_precede terminals.Comma = true
may_precede terminals.Colon = true
may_precede terminals.Ellipsis = true
may_precede terminal = ends_operand terminal

-- a value may begin here, with white space before it or not; `signed`: with a sign that is an operator behind an operand
pub record Ready (state : State) (spaced signed : Bool) : Type 0 where
  pub before : may_precede state.before ≡ true
  -- no word goes on
  pub word : (state.word && not spaced) ≡ false
  -- behind another value stands white space, and no such sign
  pub operand : (ends_operand state.before && (not spaced || signed)) ≡ false
  pub rest : is_behind_rest state ≡ false

-- what may stand directly behind a value
abbrev pub stops : Sort → Bool
stops sorts.CloseParen = true
stops sorts.CloseBracket = true
stops sorts.CloseInsert = true
stops sorts.OpenBrace = true
stops sorts.CloseBrace = true
stops sorts.Comma = true
stops sorts.Colon = true
stops sorts.Semicolon = true
stops sorts.Ellipsis = true
stops sorts.Slash = true
stops sorts.Comment = true
stops _ = false

-- nothing goes on with a value that ends before this place
abbrev pub IsClosed : List Plain → ℕ → Type 0
IsClosed plains at = (spaced_at plains at || stops (sort_at plains at)) ≡ true

-- what is known of the terminal before where something ended: a value, or a sign between values
abbrev pub Behind : Bool → State → Type 0
Behind true state = ends_operand state.before ≡ true
Behind false state = (separates state.before ≡ true) × (state.word ≡ false)

-- tokens are what they are written as, and behind them is read as before
pub record Told (plains : List Plain) (mode : Mode) (frames : List Frame) (state : State) (at : ℕ)
    (tokens : List Written)
    (to : ℕ) : Type 0 where
  pub lexemes : List Lexeme
  pub end : State
  pub passed : Passed plains state at tokens lexemes end to
  pub within : Within mode frames end
