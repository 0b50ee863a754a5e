-- `@use` and `@forward` up to their end: the url, the namespace or the prefix, the members, and the configuration.
use Rattle.std.specs.Prelude.{◌≡◌, ℕ, Bool, true, false, List, [], ◌∷◌, ◌++◌}
use Rattle.sw_parse_terminals.specs.declared.terminal.Terminal.TheVariants as terminals
use Rattle.sw_parse_lexemes.specs.declared.sort.Sort.{Sort}
use Rattle.sw_parse_lexemes.specs.declared.sort.Sort.TheVariants as sorts
use Rattle.sw_parse_lexemes.specs.declared.plain.Plain.{Plain}
use Rattle.sw_parse_lexemes.specs.declared.state.Mode.{Mode}
use Rattle.sw_parse_lexemes.specs.declared.state.Mode.TheVariants as modes
use Rattle.sw_parse_lexemes.specs.declared.state.Frame.{Frame}
use Rattle.sw_parse_lexemes.specs.declared.state.State.{State}
use Rattle.sw_parse_lexemes.specs.Classes.{is_name}
use Rattle.sw_convert_passing.specs.Written.{Written, written, direct, apart, Stand}
use Rattle.sw_convert_passing.specs.Places.{Told}
use Rattle.sw_convert_passing.specs.Values.{Value, Items, Flags, seam, dollar, enclosed}
use Rattle.sw_convert_passing.specs.Heads.{Starts}

-- the string of a load gives a default namespace, or needs no one
abbrev pub is_url : Bool → Sort → Bool
is_url named sorts.Quoted = true
is_url named sorts.Unnamed = named
is_url named _ = false

-- what stands behind `as` in `@use`, where it does
pub data UseName : Bool → List Written → Type 0 where
  no_name : UseName false []
  as_name : (name : Sort) → is_name name ≡ true
      → UseName true (apart sorts.As terminals.As ∷ apart name terminals.Named ∷ [])
  as_star : UseName true (apart sorts.As terminals.As ∷ apart sorts.Star terminals.Star ∷ [])

-- and in `@forward`
pub data ForwardPrefix : List Written → Type 0 where
  no_prefix : ForwardPrefix []
  as_prefix : (name : Sort) → is_name name ≡ true
      → ForwardPrefix
      (apart sorts.As terminals.As ∷ apart name terminals.Prefix ∷ direct sorts.Star terminals.PrefixStar ∷ [])

pub data MemberName : List Written → Type 0 where
  named_member : (name : Sort) → is_name name ≡ true → MemberName (apart name terminals.Named ∷ [])
  variable_member : (name : Sort) → is_name name ≡ true
      → MemberName (dollar true ∷ direct name terminals.VariableName ∷ [])

pub data MemberNames : List Written → Type 0 where
  one_member : {member : List Written} → MemberName member → MemberNames member
  more_members : {member rest : List Written} → MemberName member → MemberNames rest
      → MemberNames (member ++ direct sorts.Comma terminals.Comma ∷ rest)

pub data ForwardFilter : List Written → Type 0 where
  no_filter : ForwardFilter []
  shown : {members : List Written} → MemberNames members
      → ForwardFilter (apart sorts.Show terminals.Show ∷ members)
  hidden : {members : List Written} → MemberNames members
      → ForwardFilter (apart sorts.Hide terminals.Hide ∷ members)

-- variables with values and flags, with commas between them
abbrev pub entry : Bool → Sort → List Written → List Written → List Written
entry spaced name value flags =
    dollar spaced ∷ direct name terminals.VariableName ∷ direct sorts.Colon terminals.Colon ∷ (value ++ flags)

pub data Entries : Bool → List Written → Type 0 where
  one_entry : {spaced signed : Bool} {value flags : List Written} → (name : Sort) → is_name name ≡ true
      → Value modes.Ends true signed value → Flags flags → Entries spaced (entry spaced name value flags)
  more_entries : {spaced signed : Bool} {value flags rest : List Written} → (name : Sort) → is_name name ≡ true
      → Value modes.Ends true signed value → Flags flags → Entries true rest
      → Entries spaced (entry spaced name value flags ++ direct sorts.Comma terminals.Comma ∷ rest)

abbrev pub configuration_in : List Written → List Written
configuration_in inner =
    apart sorts.With terminals.With ∷ enclosed (apart sorts.OpenParen terminals.HeadParen) inner
    (direct sorts.CloseParen terminals.ParenEnd) []

pub data UseConfiguration : List Written → Type 0 where
  not_configured : UseConfiguration []
  configured : {inner : List Written} → Items inner → UseConfiguration (configuration_in inner)
  -- behind an empty comment
  configured_apart : {inner : List Written} → Items inner → UseConfiguration (seam ∷ configuration_in inner)

pub data ForwardConfiguration : List Written → Type 0 where
  not_configured : ForwardConfiguration []
  configured : {inner : List Written} → Entries false inner → ForwardConfiguration (configuration_in inner)
  configured_apart : {inner : List Written} → Entries false inner
      → ForwardConfiguration (seam ∷ configuration_in inner)

pub data LoadHead : Mode → List Written → Type 0 where
  use_head : {spaced named : Bool} {name configuration : List Written} → (url : Sort) → is_url named url ≡ true
      → UseName named name → UseConfiguration configuration
      → LoadHead modes.Use
      (written sorts.AtUse spaced terminals.AtUse ∷ apart url terminals.LoadUrl ∷ (name ++ configuration))
  forward_head : {spaced : Bool} {prefix filter configuration : List Written} → (url : Sort) → is_url true url ≡ true
      → ForwardPrefix prefix → ForwardFilter filter → ForwardConfiguration configuration
      → LoadHead modes.Forward
      (written sorts.AtForward spaced terminals.AtForward ∷ apart url terminals.LoadUrl
      ∷ (prefix ++ (filter ++ configuration)))

-- where a statement begins a load is what it is written as
abbrev pub LoadsAreTold : Type 0
LoadsAreTold =
    (mode : Mode) (tokens : List Written) → LoadHead mode tokens → (plains : List Plain) (frames : List Frame)
    (state : State)
    (at to : ℕ) → Starts frames state → Stand plains at tokens to → Told plains mode frames state at tokens to
