-- The ends of statements, and the braces around blocks of them.
use Rattle.std.specs.Prelude.{◌≡◌, ℕ, Bool, true, false, ◌&&◌, nat_lt, List, [], ◌∷◌, ◌++◌}
use Rattle.sw_parse_terminals.specs.declared.terminal.Terminal.TheVariants as terminals
use Rattle.sw_parse_terminals.specs.declared.lexeme.Lexeme.{Lexeme}
use Rattle.sw_parse_lexemes.specs.declared.sort.Sort.TheVariants as sorts
use Rattle.sw_parse_lexemes.specs.declared.plain.Plain.{Plain}
use Rattle.sw_parse_lexemes.specs.declared.state.Mode.{Mode}
use Rattle.sw_parse_lexemes.specs.declared.state.Bracket.TheVariants as brackets
use Rattle.sw_parse_lexemes.specs.declared.state.Frame.{Frame}
use Rattle.sw_parse_lexemes.specs.declared.state.State.{State}
use Rattle.sw_parse_lexemes.specs.Ahead.{length_at}
use Rattle.sw_parse_lexemes.specs.Brackets.{innermost, is_outer, is_custom}
use Rattle.sw_convert_passing.specs.Written.{Written, written, Stand, Within, Passed}
use Rattle.sw_convert_passing.specs.Heads.{Starts}

abbrev pub end_sign : Bool → Written
end_sign spaced = written sorts.Semicolon spaced terminals.Semicolon

abbrev pub open_sign : Bool → Written
open_sign spaced = written sorts.OpenBrace spaced terminals.Open

abbrev pub close_sign : Bool → Written
close_sign spaced = written sorts.CloseBrace spaced terminals.Close

-- a block behind a head that was read in a mode
abbrev pub block_in : Mode → Frame
block_in mode = record { bracket = brackets.Block; opened = terminals.Open; mode = mode }

-- tokens are what they are written as, and a statement may begin behind them
pub record StartTold (plains : List Plain) (frames : List Frame) (state : State) (at : ℕ) (tokens : List Written) (to : ℕ)
    : Type 0 where
  pub end : State
  pub lexemes : List Lexeme
  pub passed : Passed plains state at tokens lexemes end to
  pub starts : Starts frames end

-- a `;` behind a statement in which no bracket is open
abbrev pub EndsAreTold : Type 0
EndsAreTold =
    (spaced : Bool) (plains : List Plain) (mode : Mode) (frames : List Frame) (state : State) (at to : ℕ)
    → is_outer (innermost frames) ≡ true → Within mode frames state → Stand plains at (end_sign spaced ∷ []) to
    → StartTold plains frames state at (end_sign spaced ∷ []) to

-- a `{` behind a head in which no bracket is open; behind `--x:` one that has a text of its own is text
abbrev pub BlocksOpen : Type 0
BlocksOpen =
    (spaced : Bool) (plains : List Plain) (mode : Mode) (frames : List Frame) (state : State) (at to : ℕ)
    → is_outer (innermost frames) ≡ true → (is_custom mode && nat_lt 0 (length_at plains at)) ≡ false
    → Within mode frames state → Stand plains at (open_sign spaced ∷ []) to
    → StartTold plains (frames ++ block_in mode ∷ []) state at (open_sign spaced ∷ []) to

-- a `}` where a statement may begin in a block
abbrev pub BlocksClose : Type 0
BlocksClose =
    (spaced : Bool) (plains : List Plain) (mode : Mode) (frames : List Frame) (state : State) (at to : ℕ)
    → Starts (frames ++ block_in mode ∷ []) state → Stand plains at (close_sign spaced ∷ []) to
    → StartTold plains frames state at (close_sign spaced ∷ []) to

-- a `}` behind the last statement of a block, which no `;` ends
abbrev pub BlocksEnd : Type 0
BlocksEnd =
    (spaced : Bool) (plains : List Plain) (inner mode : Mode) (frames : List Frame) (state : State) (at to : ℕ)
    → Within inner (frames ++ block_in mode ∷ []) state → Stand plains at (close_sign spaced ∷ []) to
    → StartTold plains frames state at (close_sign spaced ∷ []) to
