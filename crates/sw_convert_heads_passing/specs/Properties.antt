-- The names of declarations and of custom properties, with `#{}` in them or without, up to their `:`.
use Rattle.std.specs.Prelude.{◌≡◌, ℕ, Bool, true, false, not, ◌||◌, List, [], ◌∷◌, ◌++◌}
use Rattle.sw_parse_terminals.specs.declared.terminal.Terminal.TheVariants as terminals
use Rattle.sw_parse_lexemes.specs.declared.sort.Sort.{Sort}
use Rattle.sw_parse_lexemes.specs.declared.sort.Sort.TheVariants as sorts
use Rattle.sw_parse_lexemes.specs.declared.plain.Plain.{Plain}
use Rattle.sw_parse_lexemes.specs.declared.state.Mode.TheVariants as modes
use Rattle.sw_parse_lexemes.specs.declared.state.Frame.{Frame}
use Rattle.sw_parse_lexemes.specs.declared.state.State.{State}
use Rattle.sw_parse_lexemes.specs.Classes.{is_name, is_reserved}
use Rattle.sw_parse_lexemes.specs.Ahead.{spaced_at}
use Rattle.sw_convert_passing.specs.Written.{Written, written, direct, Stand}
use Rattle.sw_convert_passing.specs.Values.{Items, Parts, inserted, begins_insert}
use Rattle.sw_convert_passing.specs.Heads.{Starts}
use Rattle.sw_convert_passing.specs.Heads as values
use Rattle.sw_convert_heads_passing.specs.Heads.{HeadTold}

abbrev pub colon : Written
colon = direct sorts.Colon terminals.Colon

abbrev pub is_dashed : Sort → Bool
is_dashed sorts.DashedName = true
is_dashed _ = false

-- a word and a `:`
pub data PropertyHead : List Written → Type 0 where
  named_property : {spaced : Bool} {parts : List Written} → (sort : Sort) → is_name sort ≡ true → is_dashed sort ≡ false
      → (begins_insert parts || not (is_reserved sort)) ≡ true → Parts parts
      → PropertyHead (written sort spaced terminals.Word ∷ (parts ++ colon ∷ []))
  begun_property : {spaced : Bool} {inner parts : List Written} → Items inner → Parts parts
      → PropertyHead (inserted spaced terminals.WordInsert inner (parts ++ colon ∷ []))
  minus_property : {spaced : Bool} {inner parts : List Written} → Items inner → Parts parts
      → PropertyHead
      (written sorts.Minus spaced terminals.WordMinus ∷ inserted false terminals.WordInsert inner (parts ++ colon ∷ []))

-- a name that begins with `--`, and a `:`
pub data CustomHead : List Written → Type 0 where
  custom_head : {spaced : Bool} {parts : List Written} → Parts parts
      → CustomHead (written sorts.DashedName spaced terminals.Custom ∷ (parts ++ colon ∷ []))

-- where a statement begins these are what they are written as, and behind them and white space a value may begin
abbrev pub PropertyHeadsAreTold : Type 0
PropertyHeadsAreTold =
    (tokens : List Written) → PropertyHead tokens → (plains : List Plain) (frames : List Frame) (state : State)
    (at to : ℕ) → Starts frames state → Stand plains at tokens to → spaced_at plains to ≡ true
    → values.HeadTold plains modes.Expression frames state at tokens to

-- and the text of a custom property
abbrev pub CustomHeadsAreTold : Type 0
CustomHeadsAreTold =
    (tokens : List Written) → CustomHead tokens → (plains : List Plain) (frames : List Frame) (state : State)
    (at to : ℕ) → Starts frames state → Stand plains at tokens to
    → (told : HeadTold plains modes.Custom frames state at tokens to) × (told.told.end.word ≡ false)
