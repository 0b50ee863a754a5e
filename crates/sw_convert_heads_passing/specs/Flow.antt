-- The heads of `@each`, `@for`, `@else` and `@charset`, the word between the bounds of `@for`, and the assignment of another
-- module's variable.
use Rattle.std.specs.Prelude.{◌≡◌, ℕ, ◌+◌, ◌<◌, Bool, true, false, List, [], ◌∷◌, ◌++◌, length}
use Rattle.sw_parse_terminals.specs.declared.terminal.Terminal.{Terminal}
use Rattle.sw_parse_terminals.specs.declared.terminal.Terminal.TheVariants as terminals
use Rattle.sw_parse_lexemes.specs.declared.sort.Sort.{Sort}
use Rattle.sw_parse_lexemes.specs.declared.sort.Sort.TheVariants as sorts
use Rattle.sw_parse_lexemes.specs.declared.plain.Plain.{Plain}
use Rattle.sw_parse_lexemes.specs.declared.state.Mode.{Mode}
use Rattle.sw_parse_lexemes.specs.declared.state.Mode.TheVariants as modes
use Rattle.sw_parse_lexemes.specs.declared.state.Frame.{Frame}
use Rattle.sw_parse_lexemes.specs.declared.state.State.{State}
use Rattle.sw_parse_lexemes.specs.Classes.{is_name}
use Rattle.sw_parse_lexemes.specs.Ahead.{sort_at, spaced_at}
use Rattle.sw_parse_lexemes.specs.Signs.{ends_operand}
use Rattle.sw_convert_passing.specs.Written.{Written, written, direct, apart, Stand, Within}
use Rattle.sw_convert_passing.specs.Places.{Told}
use Rattle.sw_convert_passing.specs.Values.{dollar, seam}
use Rattle.sw_convert_passing.specs.Heads.{Starts, HeadTold}
use Rattle.sw_convert_heads_passing.specs.Properties.{colon, is_dashed}

-- the names of variables with commas between them
pub data Names : List Written → Type 0 where
  last_name : (name : Sort) → is_name name ≡ true → Names (dollar true ∷ direct name terminals.VariableName ∷ [])
  more_names : {rest : List Written} → (name : Sort) → is_name name ≡ true → Names rest
      → Names
      (dollar true ∷ direct name terminals.VariableName ∷ direct sorts.Comma terminals.Comma ∷ rest)

-- an empty comment before further tokens, or none
abbrev pub parted : Bool → List Written → List Written
parted true tokens = seam ∷ tokens
parted false tokens = tokens

-- heads behind which a value stands, and how it is read
pub data FlowHead : Mode → List Written → Type 0 where
  each_head : {spaced : Bool} {names : List Written} → (gap : Bool) → Names names
      → FlowHead modes.Expression
      (written sorts.AtEach spaced terminals.AtEach ∷ (names ++ parted gap (apart sorts.In terminals.In ∷ [])))
  for_head : {spaced : Bool} → (gap : Bool) (name : Sort) → is_name name ≡ true
      → FlowHead modes.Bounds
      (written sorts.AtFor spaced terminals.AtFor ∷ dollar true ∷ direct name terminals.VariableName
      ∷ parted gap (apart sorts.From terminals.From ∷ []))
  else_if_head : {spaced : Bool}
      → FlowHead modes.Expression
      (written sorts.AtElse spaced terminals.AtElseIf ∷ apart sorts.If terminals.If ∷ [])
  assigned_head : {spaced : Bool} → (owner name : Sort) → is_name owner ≡ true → is_dashed owner ≡ false
      → is_name name ≡ true
      → FlowHead modes.Ends
      (written owner spaced terminals.Owner ∷ direct sorts.Dot terminals.OwnerDot
      ∷ direct sorts.Dollar terminals.OwnerDollar ∷ direct name terminals.VariableName ∷ colon ∷ [])

abbrev pub FlowHeadsAreTold : Type 0
FlowHeadsAreTold =
    (mode : Mode) (tokens : List Written) → FlowHead mode tokens → (plains : List Plain) (frames : List Frame)
    (state : State)
    (at to : ℕ) → Starts frames state → Stand plains at tokens to → spaced_at plains to ≡ true
    → HeadTold plains mode frames state at tokens to

-- the word between two bounds
abbrev pub is_bound : Sort → Bool
is_bound sorts.Through = true
is_bound sorts.To = true
is_bound _ = false

abbrev pub bound : Sort → Terminal
bound sorts.Through = terminals.Through
bound _ = terminals.To

abbrev pub BoundsAreTold : Type 0
BoundsAreTold =
    (sort : Sort) → is_bound sort ≡ true → (plains : List Plain) (frames : List Frame) (state : State) (at to : ℕ)
    → Within modes.Bounds frames state → ends_operand state.before ≡ true
    → Stand plains at (apart sort (bound sort) ∷ []) to → spaced_at plains to ≡ true
    → HeadTold plains modes.Bounds frames state at (apart sort (bound sort) ∷ []) to

-- heads without a value: `@else` before a `{`, and the string of `@charset`
abbrev pub is_string : Sort → Bool
is_string sorts.Quoted = true
is_string sorts.Unnamed = true
is_string _ = false

pub data LoneHead : Mode → List Written → Type 0 where
  else_head : {spaced : Bool} → LoneHead modes.Else (written sorts.AtElse spaced terminals.AtElse ∷ [])
  charset_head : {spaced : Bool} → (sort : Sort) → is_string sort ≡ true
      → LoneHead modes.Expression (written sorts.AtCharset spaced terminals.AtCharset ∷ apart sort terminals.Plain ∷ [])

-- behind them stands a `{`, with an empty comment before it or without, or a `;`
pub data Ends (plains : List Plain) (at : ℕ) : Type 0 where
  before_block : sort_at plains at ≡ sorts.OpenBrace → Ends plains at
  before_seam : at < length plains → sort_at plains at ≡ sorts.Comment → sort_at plains (at + 1) ≡ sorts.OpenBrace
      → Ends plains at
  before_end : sort_at plains at ≡ sorts.Semicolon → Ends plains at

abbrev pub LoneHeadsAreTold : Type 0
LoneHeadsAreTold =
    (mode : Mode) (tokens : List Written) → LoneHead mode tokens → (plains : List Plain) (frames : List Frame)
    (state : State)
    (at to : ℕ) → Starts frames state → Stand plains at tokens to → Ends plains to
    → Told plains mode frames state at tokens to
