-- What is written of a value is read as what is meant, wherever a value may begin.
use Rattle.std.specs.Prelude.{◌≡◌, ℕ, Bool, true, false, List}
use Rattle.sw_parse_terminals.specs.declared.terminal.Terminal.TheVariants as terminals
use Rattle.sw_parse_lexemes.specs.declared.plain.Plain.{Plain}
use Rattle.sw_parse_lexemes.specs.declared.state.Mode.{Mode}
use Rattle.sw_parse_lexemes.specs.declared.state.Frame.{Frame}
use Rattle.sw_parse_lexemes.specs.declared.state.State.{State}
use Rattle.sw_parse_lexemes.specs.Names.{is}
use Rattle.sw_parse_lexemes.specs.Signs.{ends_operand, is_params, takes_flags}
use Rattle.sw_convert_passing.specs.Written.{Written, Stand, Within}
use Rattle.sw_convert_passing.specs.Places.{is_value, may_precede, Ready, IsClosed, Behind, Told}
use Rattle.sw_convert_passing.specs.Values.{Value, Row, Flags}

-- the tokens of a value are what they are written as, and a value ends behind them
abbrev pub ValuesAreTold : Type 0
ValuesAreTold =
    (mode : Mode) (spaced signed : Bool) (tokens : List Written) → Value mode spaced signed tokens
    → (plains : List Plain) (frames : List Frame) (state : State) (at to : ℕ) → is_value mode ≡ true
    → Within mode frames state → Ready state spaced signed → Stand plains at tokens to → IsClosed plains to
    → (told : Told plains mode frames state at tokens to) × (ends_operand told.end.before ≡ true)

-- the same of values with signs between them, behind what begins a list of them
abbrev pub RowsAreTold : Type 0
RowsAreTold =
    (mode : Mode) (spaced ended : Bool) (tokens : List Written) → Row mode spaced ended tokens
    → (plains : List Plain) (frames : List Frame) (state : State) (at to : ℕ) → is_value mode ≡ true
    → is_params mode ≡ false → Within mode frames state → may_precede state.before ≡ true
    → ends_operand state.before ≡ false → is state.before terminals.Comma ≡ false → state.word ≡ false
    → Stand plains at tokens to → IsClosed plains to
    → (told : Told plains mode frames state at tokens to) × Behind ended told.end

-- flags where these end a value
abbrev pub FlagsAreTold : Type 0
FlagsAreTold =
    (mode : Mode) (tokens : List Written) → Flags tokens → (plains : List Plain) (frames : List Frame) (state : State)
    (at to : ℕ) → is_value mode ≡ true → takes_flags mode ≡ true → Within mode frames state → Stand plains at tokens to
    → Told plains mode frames state at tokens to
