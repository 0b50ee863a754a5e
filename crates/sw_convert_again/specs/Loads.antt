-- What is written of the parts of `@use` and `@forward` that were read: the namespace or the prefix, the members that are
-- shown or hidden, and the configuration, which loses a comma behind it.
use Rattle.std.specs.Prelude.{◌≡◌, ◌⊎◌, ℕ, suc, Bool, true, false, List, [], ◌∷◌, ◌++◌, Option, Some, None}
use Rattle.sw_tree.specs.declared.expr.Expr.{Expr}
use Rattle.sw_tree.specs.declared.load.Filter.{Filter}
use Rattle.sw_tree.specs.declared.load.Filter.TheVariants as filters
use Rattle.sw_tree.specs.declared.load.Given.{Given}
use Rattle.sw_tree.specs.declared.load.Member.{Member}
use Rattle.sw_tree.specs.declared.load.Namespace.{Namespace}
use Rattle.sw_tree.specs.declared.load.Namespace.TheVariants as namespaces
use Rattle.sw_parse_terminals.specs.declared.terminal.Terminal.TheVariants as terminals
use Rattle.sw_parse_terminals.specs.Numbers.{just}
use Rattle.sw_parse_terminals.specs.Urls.{namespace_of}
use Rattle.sw_parse_table.specs.declared.source.Source.{Source}
use Rattle.sw_parse_table.specs.Sets.{dollars, endings}
use Rattle.sw_parse_table.specs.Sources.{bytes_at, decoded_at, span_between}
use Rattle.sw_parse_table.specs.Actions.{name_at}
use Rattle.sw_convert_again.specs.Tokens.{Dashed, Bytes, Tok, tok, sign, Old}
use Rattle.sw_convert_again.specs.Spells.{SpellsPlain, within}
use Rattle.sw_convert_again.specs.Params.{dollar_tokens}

-- the namespace of a url, by its place
pub data SpellsNamespace (source : Source) (url : ℕ) : ℕ → ℕ → Namespace → List Tok → Type 0 where
  default_namespace : {i : ℕ}
      → SpellsNamespace source url i i (namespaces.Default (namespace_of (decoded_at source url))) []
  written_namespace : {i : ℕ} → Old source i (just terminals.As) → Old source (suc i) (just terminals.Named)
      → SpellsNamespace source url i (suc (suc i)) (namespaces.Written (bytes_at source (suc i)))
      (sign terminals.As ∷ tok terminals.Named (Bytes 1 (bytes_at source (suc i))) ∷ [])
  without_namespace : {i : ℕ} → Old source i (just terminals.As) → Old source (suc i) (just terminals.Star)
      → SpellsNamespace source url i (suc (suc i)) namespaces.Without (sign terminals.As ∷ sign terminals.Star ∷ [])

pub data SpellsPrefix (source : Source) : ℕ → ℕ → Option (List ℕ) → List Tok → Type 0 where
  no_prefix : {i : ℕ} → SpellsPrefix source i i None []
  some_prefix : {i : ℕ} → Old source i (just terminals.As) → Old source (suc i) (just terminals.Prefix)
      → Old source (suc (suc i)) (just terminals.PrefixStar)
      → SpellsPrefix source i (suc (suc (suc i))) (Some (bytes_at source (suc i)))
      (sign terminals.As ∷ tok terminals.Prefix (Bytes 1 (bytes_at source (suc i))) ∷ sign terminals.PrefixStar ∷ [])

pub data SpellsMember (source : Source) : ℕ → ℕ → Member → List Tok → Type 0 where
  named_member : {i : ℕ} → Old source i (just terminals.Named)
      → SpellsMember source i (suc i) (record { variable = false; name = name_at source i })
      (tok terminals.Named (Dashed (name_at source i)) ∷ [])
  variable_member : {i : ℕ} → Old source i dollars → Old source (suc i) (just terminals.VariableName)
      → SpellsMember source i (suc (suc i)) (record { variable = true; name = name_at source (suc i) })
      (dollar_tokens (name_at source (suc i)))

-- members with a comma before each
pub data SpellsMoreMembers (source : Source) : ℕ → ℕ → List Member → List Tok → Type 0 where
  no_more_members : {i : ℕ} → SpellsMoreMembers source i i [] []
  more_members : {i k j : ℕ} {member : Member} {members : List Member} {tokens others : List Tok}
      → Old source i (just terminals.Comma) → SpellsMember source (suc i) k member tokens
      → SpellsMoreMembers source k j members others
      → SpellsMoreMembers source i j (member ∷ members) (sign terminals.Comma ∷ (tokens ++ others))

pub data SpellsFilter (source : Source) : ℕ → ℕ → Filter → List Tok → Type 0 where
  no_filter : {i : ℕ} → SpellsFilter source i i filters.All []
  shown : {i k j : ℕ} {member : Member} {members : List Member} {tokens others : List Tok}
      → Old source i (just terminals.Show) → SpellsMember source (suc i) k member tokens
      → SpellsMoreMembers source k j members others
      → SpellsFilter source i j (filters.Show (member ∷ members)) (sign terminals.Show ∷ (tokens ++ others))
  hidden : {i k j : ℕ} {member : Member} {members : List Member} {tokens others : List Tok}
      → Old source i (just terminals.Hide) → SpellsMember source (suc i) k member tokens
      → SpellsMoreMembers source k j members others
      → SpellsFilter source i j (filters.Hide (member ∷ members)) (sign terminals.Hide ∷ (tokens ++ others))

-- a variable that is configured, whose name stands at a place
abbrev pub configured : Source → ℕ → Bool → Expr → Given
configured source i default value =
    record {
      name = name_at source (suc i);
      name_span = span_between source i (suc (suc i));
      value = value;
      default = default;
    }

-- with `!default` only in `@forward`
pub data SpellsConfigured (source : Source) : Bool → ℕ → ℕ → Given → List Tok → Type 0 where
  configured_variable : {flagged : Bool} {i j : ℕ} {value : Expr} {tokens : List Tok} → Old source i dollars
      → Old source (suc i) (just terminals.VariableName) → Old source (suc (suc i)) (just terminals.Colon)
      → SpellsPlain source (suc (suc (suc i))) j value tokens
      → SpellsConfigured source flagged i j (configured source i false value)
      (dollar_tokens (name_at source (suc i)) ++ sign terminals.Colon ∷ tokens)
  configured_default : {i k : ℕ} {value : Expr} {tokens : List Tok} → Old source i dollars
      → Old source (suc i) (just terminals.VariableName) → Old source (suc (suc i)) (just terminals.Colon)
      → SpellsPlain source (suc (suc (suc i))) k value tokens
      → Old source k endings → Old source (suc k) (just terminals.Default)
      → SpellsConfigured source true i (suc (suc k)) (configured source i true value)
      (dollar_tokens (name_at source (suc i))
      ++ sign terminals.Colon ∷ (tokens ++ sign terminals.Ending ∷ sign terminals.Default ∷ []))

-- variables with a comma before each
pub data SpellsMoreConfigured (source : Source) (flagged : Bool) : ℕ → ℕ → List Given → List Tok → Type 0 where
  no_more_configured : {i : ℕ} → SpellsMoreConfigured source flagged i i [] []
  more_configured : {i k j : ℕ} {given : Given} {givens : List Given} {tokens others : List Tok}
      → Old source i (just terminals.Comma) → SpellsConfigured source flagged (suc i) k given tokens
      → SpellsMoreConfigured source flagged k j givens others
      → SpellsMoreConfigured source flagged i j (given ∷ givens) (sign terminals.Comma ∷ (tokens ++ others))

pub data SpellsConfiguration (source : Source) (flagged : Bool) : ℕ → ℕ → List Given → List Tok → Type 0 where
  no_configuration : {i : ℕ} → SpellsConfiguration source flagged i i [] []
  some_configuration : {i k m c : ℕ} {given : Given} {givens : List Given} {tokens others : List Tok}
      → Old source i (just terminals.With) → Old source (suc i) (just terminals.HeadParen)
      → SpellsConfigured source flagged (suc (suc i)) k given tokens → SpellsMoreConfigured source flagged k m givens others
      → (c ≡ m) ⊎ ((c ≡ suc m) × Old source m (just terminals.Comma)) → Old source c (just terminals.ParenEnd)
      → SpellsConfiguration source flagged i (suc c) (given ∷ givens)
      (sign terminals.With ∷ within (sign terminals.HeadParen) (tokens ++ others) terminals.ParenEnd)
