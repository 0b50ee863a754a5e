-- Tokens as they are written, and what they are where they stand.
use Rattle.std.specs.Prelude.{◌≡◌, ◌⊎◌, ℕ, ◌+◌, ◌<◌, Bool, true, false, List, [], ◌∷◌, ◌++◌, length, Some, slice_get}
use Rattle.sw_parse_terminals.specs.declared.terminal.Terminal.{Terminal}
use Rattle.sw_parse_terminals.specs.declared.lexeme.Lexeme.{Lexeme}
use Rattle.sw_parse_lexemes.specs.declared.sort.Sort.{Sort}
use Rattle.sw_parse_lexemes.specs.declared.sort.Sort.TheVariants as sorts
use Rattle.sw_parse_lexemes.specs.declared.plain.Plain.{Plain}
use Rattle.sw_parse_lexemes.specs.declared.state.Mode.{Mode}
use Rattle.sw_parse_lexemes.specs.declared.state.Frame.{Frame}
use Rattle.sw_parse_lexemes.specs.declared.state.State.{State}
use Rattle.sw_parse_lexemes.specs.Ahead.{sort_at, spaced_at}
use Rattle.sw_parse_lexemes.specs.Classes.{is_comment}
use Rattle.sw_parse_lexemes.specs.Terminals.{terminal_of}
use Rattle.sw_parse_lexemes.specs.Steps.{placed, after, past_white}
use Rattle.sw_parse_lexemes.specs.Lexemes.{lexeme_of, lexemes_by}

-- a token as it is written, and the terminals that it may be
pub record Written : Type 0 where
  pub sort : Sort
  -- white space or a comment stands directly before it
  pub spaced : Bool
  pub may_be : List Terminal

abbrev pub written : Sort → Bool → Terminal → Written
written sort spaced terminal = record { sort = sort; spaced = spaced; may_be = terminal ∷ [] }

-- with nothing between it and the token before, and with white space there
abbrev pub direct : Sort → Terminal → Written
direct sort terminal = written sort false terminal

abbrev pub apart : Sort → Terminal → Written
apart sort terminal = written sort true terminal

abbrev pub Among : Terminal → List Terminal → Type 0
Among terminal [] = ⊥
Among terminal (one ∷ rest) = (terminal ≡ one) ⊎ Among terminal rest

-- a token stands at a place as it is written
pub record IsThere (plains : List Plain) (at : ℕ) (token : Written) : Type 0 where
  pub within : at < length plains
  pub sort : sort_at plains at ≡ token.sort
  pub spaced : spaced_at plains at ≡ token.spaced

-- these tokens stand from a place on up to another
abbrev pub Stand : List Plain → ℕ → List Written → ℕ → Type 0
Stand plains at [] to = at ≡ to
Stand plains at (token ∷ tokens) to = IsThere plains at token × Stand plains (at + 1) tokens to

-- read from a state and a place on, tokens that stand as they are written are these lexemes, and then this is the state
pub data Passed (plains : List Plain) : State → ℕ → List Written → List Lexeme → State → ℕ → Type 0 where
  nothing : {state : State} {at : ℕ} → Passed plains state at [] [] state at
  token : {state end : State} {at to : ℕ} {tokens : List Written} {lexemes : List Lexeme}
      → (plain : Plain) (one : Written)
      → slice_get plains at ≡ Some plain → is_comment (sort_at plains at) ≡ false → state.start ≡ false
      → state.ignored ≡ 0 → Among (terminal_of state plains at) one.may_be
      → Passed plains (after state (terminal_of state plains at)) (at + 1) tokens lexemes end to
      → Passed plains state at (one ∷ tokens)
      (lexeme_of plain at state.commented (terminal_of state plains at) ∷ lexemes) end to
  -- the first token of a statement is read as the statement's form says
  begins : {state end : State} {at to : ℕ} {tokens : List Written} {lexemes : List Lexeme}
      → (plain : Plain) (one : Written)
      → slice_get plains at ≡ Some plain → is_comment (sort_at plains at) ≡ false → state.start ≡ true
      → state.ignored ≡ 0 → Among (terminal_of (placed state plains at) plains at) one.may_be
      → Passed plains (after (placed state plains at) (terminal_of (placed state plains at) plains at)) (at + 1) tokens
      lexemes end to
      → Passed plains state at (one ∷ tokens)
      (lexeme_of plain at (placed state plains at).commented
      (terminal_of (placed state plains at) plains at) ∷ lexemes) end
      to
  -- a comment is white space, and is written as no terminal
  comment : {state end : State} {at to : ℕ} {tokens : List Written} {lexemes : List Lexeme}
      → (plain : Plain) (one : Written) → one.may_be ≡ []
      → slice_get plains at ≡ Some plain → sort_at plains at ≡ sorts.Comment → state.start ≡ false → state.ignored ≡ 0
      → Passed plains (past_white state plain.sort) (at + 1) tokens lexemes end to
      → Passed plains state at (one ∷ tokens) lexemes end to

-- what is passed is what the grammar sees, and then comes what it sees of the rest
abbrev pub PassedIsSeen : Type 0
PassedIsSeen =
    (plains : List Plain) (state : State) (at : ℕ) (tokens : List Written) (lexemes : List Lexeme) (end : State)
    (to : ℕ)
    → Passed plains state at tokens lexemes end to → lexemes_by plains state at ≡ lexemes ++ lexemes_by plains end to

-- tokens are read in a mode here, within what is open
pub record Within (mode : Mode) (frames : List Frame) (state : State) : Type 0 where
  pub mode_is : state.mode ≡ mode
  pub frames_are : state.frames ≡ frames
  pub no_start : state.start ≡ false
  pub no_comment : state.ignored ≡ 0
