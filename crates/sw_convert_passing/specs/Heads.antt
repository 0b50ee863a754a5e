-- The heads of statements in which a value stands: of a declaration, of a variable's assignment and of an at-rule.
use Rattle.std.specs.Prelude.{◌≡◌, ℕ, Bool, true, false, not, ◌&&◌, List, [], ◌∷◌}
use Rattle.sw_parse_terminals.specs.declared.terminal.Terminal.{Terminal}
use Rattle.sw_parse_terminals.specs.declared.terminal.Terminal.TheVariants as terminals
use Rattle.sw_parse_lexemes.specs.declared.sort.Sort.{Sort}
use Rattle.sw_parse_lexemes.specs.declared.sort.Sort.TheVariants as sorts
use Rattle.sw_parse_lexemes.specs.declared.plain.Plain.{Plain}
use Rattle.sw_parse_lexemes.specs.declared.state.Mode.{Mode}
use Rattle.sw_parse_lexemes.specs.declared.state.Mode.TheVariants as modes
use Rattle.sw_parse_lexemes.specs.declared.state.Frame.{Frame}
use Rattle.sw_parse_lexemes.specs.declared.state.State.{State}
use Rattle.sw_parse_lexemes.specs.Classes.{is_name, is_reserved}
use Rattle.sw_parse_lexemes.specs.Ahead.{spaced_at}
use Rattle.sw_parse_lexemes.specs.Names.{is}
use Rattle.sw_parse_lexemes.specs.Signs.{ends_operand}
use Rattle.sw_parse_lexemes.specs.Steps.{begins_statement}
use Rattle.sw_convert_passing.specs.Written.{Written, written, direct, Stand}
use Rattle.sw_convert_passing.specs.Places.{may_precede, Told}

-- a statement may begin here, within what is open
pub record Starts (frames : List Frame) (state : State) : Type 0 where
  pub frames_are : state.frames ≡ frames
  pub start : state.start ≡ true
  pub no_comment : state.ignored ≡ 0
  pub word : state.word ≡ false
  pub before : begins_statement state.before ≡ true

-- a name that begins a declaration by itself: no custom property, no constant and no operator
abbrev pub is_property : Sort → Bool
is_property sorts.DashedName = false
is_property sort = is_name sort && not (is_reserved sort)

-- the at-rules that take a value
abbrev pub takes_value : Sort → Bool
takes_value sorts.AtReturn = true
takes_value sorts.AtWarn = true
takes_value sorts.AtDebug = true
takes_value sorts.AtError = true
takes_value sorts.AtIf = true
takes_value sorts.AtElseIf = true
takes_value sorts.AtWhile = true
takes_value _ = false

abbrev pub at_rule : Sort → Terminal
at_rule sorts.AtReturn = terminals.AtReturn
at_rule sorts.AtWarn = terminals.AtWarn
at_rule sorts.AtDebug = terminals.AtDebug
at_rule sorts.AtError = terminals.AtError
at_rule sorts.AtIf = terminals.AtIf
at_rule sorts.AtElseIf = terminals.AtElseIfWhole
at_rule _ = terminals.AtWhile

-- a head, and the mode in which its value is read
pub data Head : Mode → List Written → Type 0 where
  variable_head : {spaced : Bool} → (name : Sort) → is_name name ≡ true
      → Head modes.Ends
      (written sorts.Dollar spaced terminals.DollarNamed ∷ direct name terminals.VariableName
      ∷ direct sorts.Colon terminals.Colon ∷ [])
  property_head : {spaced : Bool} → (name : Sort) → is_property name ≡ true
      → Head modes.Expression (written name spaced terminals.Word ∷ direct sorts.Colon terminals.Colon ∷ [])
  at_rule_head : {spaced : Bool} → (sort : Sort) → takes_value sort ≡ true
      → Head modes.Expression (written sort spaced (at_rule sort) ∷ [])

-- a value may begin behind a head, with white space before it
pub record HeadTold (plains : List Plain) (mode : Mode) (frames : List Frame) (state : State) (at : ℕ)
    (tokens : List Written)
    (to : ℕ) : Type 0 where
  pub told : Told plains mode frames state at tokens to
  pub before : may_precede told.end.before ≡ true
  pub operand : ends_operand told.end.before ≡ false
  pub comma : is told.end.before terminals.Comma ≡ false
  pub word : told.end.word ≡ false

-- the tokens of a head, where a statement begins, are what they are written as
abbrev pub HeadsAreTold : Type 0
HeadsAreTold =
    (mode : Mode) (tokens : List Written) → Head mode tokens
    → (plains : List Plain) (frames : List Frame) (state : State)
    (at to : ℕ) → Starts frames state → Stand plains at tokens to → spaced_at plains to ≡ true
    → HeadTold plains mode frames state at tokens to
