-- The heads of functions, mixins, `@include` and `@content`, with parameters and arguments.
use Rattle.std.specs.Prelude.{◌≡◌, ℕ, Bool, true, false, List, [], ◌∷◌, ◌++◌}
use Rattle.sw_parse_terminals.specs.declared.terminal.Terminal.TheVariants as terminals
use Rattle.sw_parse_lexemes.specs.declared.sort.Sort.{Sort}
use Rattle.sw_parse_lexemes.specs.declared.sort.Sort.TheVariants as sorts
use Rattle.sw_parse_lexemes.specs.declared.plain.Plain.{Plain}
use Rattle.sw_parse_lexemes.specs.declared.state.Mode.{Mode}
use Rattle.sw_parse_lexemes.specs.declared.state.Mode.TheVariants as modes
use Rattle.sw_parse_lexemes.specs.declared.state.Frame.{Frame}
use Rattle.sw_parse_lexemes.specs.declared.state.State.{State}
use Rattle.sw_parse_lexemes.specs.Classes.{is_name}
use Rattle.sw_convert_passing.specs.Written.{Written, written, direct, apart, Stand}
use Rattle.sw_convert_passing.specs.Places.{Told, IsClosed}
use Rattle.sw_convert_passing.specs.Values.{Value, Items, Settles, seam, dollar, enclosed}
use Rattle.sw_convert_passing.specs.Heads.{Starts}

-- a parameter, with white space before it or not
pub data Param : Bool → List Written → Type 0 where
  plain_param : {spaced : Bool} → (name : Sort) → is_name name ≡ true
      → Param spaced (dollar spaced ∷ direct name terminals.VariableName ∷ [])
  default_param : {spaced signed : Bool} {value : List Written} → (name : Sort) → is_name name ≡ true
      → Value modes.Params true signed value
      → Param spaced
      (dollar spaced ∷ direct name terminals.VariableName ∷ direct sorts.Colon terminals.Colon ∷ value)

-- parameters with commas between them, of which the last may take the rest
pub data ParamRow : Bool → List Written → Type 0 where
  last_param : {spaced : Bool} {param : List Written} → Param spaced param → ParamRow spaced param
  rest_param : {spaced : Bool} → (name : Sort) → is_name name ≡ true
      → ParamRow spaced
      (dollar spaced ∷ direct name terminals.VariableName ∷ direct sorts.Ellipsis terminals.Ellipsis ∷ [])
  more_params : {spaced : Bool} {param rest : List Written} → Param spaced param → ParamRow true rest
      → ParamRow spaced (param ++ direct sorts.Comma terminals.Comma ∷ rest)

pub data Params : List Written → Type 0 where
  no_params : Params []
  some_params : {row : List Written} → ParamRow false row → Params row

abbrev pub params_in : Bool → List Written → List Written
params_in spaced params =
    enclosed (written sorts.OpenParen spaced terminals.HeadParen) params (direct sorts.CloseParen terminals.ParenEnd) []

abbrev pub arguments_in : List Written → List Written
arguments_in inner =
    enclosed (direct sorts.OpenParen terminals.CallParen) inner (direct sorts.CloseParen terminals.ParenEnd) []

-- arguments in parentheses, where there are any
pub data Given : List Written → Type 0 where
  none_given : Given []
  some_given : {inner : List Written} → Items inner → Given (arguments_in inner)

pub data MixinName : List Written → Type 0 where
  own_name : (name : Sort) → is_name name ≡ true → MixinName (apart name terminals.Named ∷ [])
  owned_name : (owner name : Sort) → is_name owner ≡ true → is_name name ≡ true
      → MixinName
      (apart owner terminals.Owner ∷ direct sorts.Dot terminals.OwnerDot ∷ direct name terminals.Named ∷ [])

-- the parameters of a content block
pub data UsingParams : List Written → Type 0 where
  none_used : UsingParams []
  some_used : {params : List Written} → Params params
      → UsingParams (apart sorts.Using terminals.Using ∷ params_in true params)
  -- behind an empty comment
  used_apart : {params : List Written} → Params params
      → UsingParams (seam ∷ apart sorts.Using terminals.Using ∷ params_in true params)

-- each with how its tokens are read
pub data MemberHead : Mode → List Written → Type 0 where
  function_head : {spaced : Bool} {params : List Written} → (name : Sort) → is_name name ≡ true → Params params
      → MemberHead modes.Head
      (written sorts.AtFunction spaced terminals.AtFunction ∷ apart name terminals.Named ∷ params_in false params)
  mixin_head : {spaced : Bool} {params : List Written} → (name : Sort) → is_name name ≡ true → Params params
      → MemberHead modes.Head
      (written sorts.AtMixin spaced terminals.AtMixin ∷ apart name terminals.Named ∷ params_in false params)
  lone_mixin_head : {spaced : Bool} → (name : Sort) → is_name name ≡ true
      → MemberHead modes.Head (written sorts.AtMixin spaced terminals.AtMixin ∷ apart name terminals.Named ∷ [])
  include_head : {spaced : Bool} {name given params : List Written} → MixinName name → Given given
      → UsingParams params
      → MemberHead modes.Include (written sorts.AtInclude spaced terminals.AtInclude ∷ (name ++ (given ++ params)))
  content_head : {spaced : Bool} {given : List Written} → Given given
      → MemberHead modes.Content (written sorts.AtContent spaced terminals.AtContent ∷ given)
  -- where the `$` of an argument is told by what stands behind its name
  settled_head : {mode : Mode} {loose exact : List Written} → MemberHead mode loose → Settles loose exact
      → MemberHead mode exact

-- where a statement begins each is what it is written as
abbrev pub MembersAreTold : Type 0
MembersAreTold =
    (mode : Mode) (tokens : List Written) → MemberHead mode tokens → (plains : List Plain) (frames : List Frame)
    (state : State)
    (at to : ℕ) → Starts frames state → Stand plains at tokens to → IsClosed plains to
    → Told plains mode frames state at tokens to
