-- Loud comments where statements may begin, and what is read of statements with such comments between them.
use Rattle.std.specs.Prelude.{◌≡◌, ℕ, ◌+◌, Bool, true, false, not, List, [], ◌∷◌, ◌++◌, Some, slice_get}
use Rattle.sw_parse_terminals.specs.declared.terminal.Terminal.TheVariants as terminals
use Rattle.sw_parse_terminals.specs.declared.lexeme.Lexeme.{Lexeme}
use Rattle.sw_parse_lexemes.specs.declared.sort.Sort.TheVariants as sorts
use Rattle.sw_parse_lexemes.specs.declared.plain.Plain.{Plain}
use Rattle.sw_parse_lexemes.specs.declared.state.Frame.{Frame}
use Rattle.sw_parse_lexemes.specs.declared.state.State.{State}
use Rattle.sw_parse_lexemes.specs.Classes.{is_comment, is_else}
use Rattle.sw_parse_lexemes.specs.Ahead.{sort_at, code_from}
use Rattle.sw_parse_lexemes.specs.Terminals.{terminal_of}
use Rattle.sw_parse_lexemes.specs.Steps.{placed, after, is_white, are_white}
use Rattle.sw_parse_lexemes.specs.Lexemes.{lexeme_of, lexemes_by}
use Rattle.sw_convert_passing.specs.Written.{Written, written, direct, Among, Passed}
use Rattle.sw_convert_passing.specs.Values.{Pieces, enclosed}
use Rattle.sw_convert_passing.specs.Heads.{Starts}
use Rattle.sw_convert_heads_passing.specs.Media.{is_code}

-- a comment, without values in it or with `#{}`
pub data Comment : List Written → Type 0 where
  whole : {spaced : Bool} → Comment (written sorts.Comment spaced terminals.CommentWhole ∷ [])
  with_values : {spaced : Bool} {inner : List Written} → Pieces sorts.Piece inner
      → Comment
      (enclosed (written sorts.CommentTemplate spaced terminals.CommentTemplate) inner
      (direct sorts.CommentEnd terminals.CommentEnd) [])

-- read from a state and a place on, these tokens are these lexemes, and then this is the state: what is passed, and where
-- a statement may begin the first token of a comment that is no white space
pub data Run (plains : List Plain) : State → ℕ → List Written → List Lexeme → State → ℕ → Type 0 where
  passed : {state end : State} {at to : ℕ} {tokens : List Written} {lexemes : List Lexeme}
      → Passed plains state at tokens lexemes end to → Run plains state at tokens lexemes end to
  loud : {state : State} {at : ℕ} → (plain : Plain) (one : Written) → slice_get plains at ≡ Some plain
      → state.ignored ≡ 0 → is_white (placed state plains at) plains at ≡ false
      → Among (terminal_of (placed state plains at) plains at) one.may_be
      → Run plains state at (one ∷ [])
      (lexeme_of plain at (placed state plains at).commented (terminal_of (placed state plains at) plains at) ∷ [])
      (after (placed state plains at) (terminal_of (placed state plains at) plains at)) (at + 1)
  joined : {state middle end : State} {at place to : ℕ} {tokens others : List Written} {lexemes more : List Lexeme}
      → Run plains state at tokens lexemes middle place → Run plains middle place others more end to
      → Run plains state at (tokens ++ others) (lexemes ++ more) end to

-- the grammar sees of them these lexemes, and then what it sees of the rest
abbrev pub RunsAreSeen : Type 0
RunsAreSeen =
    (plains : List Plain) (state : State) (at : ℕ) (tokens : List Written) (lexemes : List Lexeme) (end : State)
    (to : ℕ)
    → Run plains state at tokens lexemes end to → lexemes_by plains state at ≡ lexemes ++ lexemes_by plains end to

-- the last of these tokens ends a comment, or where there are none, what stood before them did
abbrev pub ends_comment : Bool → List Written → Bool
ends_comment before [] = before
ends_comment before (token ∷ tokens) = ends_comment (not (is_code token.sort)) tokens

-- comments at the start and at the end of these tokens are none of those before an `@else`, which are white space
pub record AreLoud (plains : List Plain) (state : State) (at : ℕ) (tokens : List Written) (to : ℕ) : Type 0 where
  pub first : is_comment (sort_at plains at) ≡ true → are_white state.comments ≡ false
  pub last : ends_comment false tokens ≡ true → is_else (sort_at plains (code_from plains to)) ≡ false

-- tokens are what they are written as, and a statement may begin behind them
pub record RunTold (plains : List Plain) (frames : List Frame) (state : State) (at : ℕ) (tokens : List Written)
    (to : ℕ) : Type 0 where
  pub end : State
  pub lexemes : List Lexeme
  pub run : Run plains state at tokens lexemes end to
  pub starts : Starts frames end
