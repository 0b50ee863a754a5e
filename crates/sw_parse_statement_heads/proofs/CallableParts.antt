-- What the table makes of what was read of a parameter and of the name of a mixin.
use Rattle.std.proofs.Common.{◌≡◌, ℕ, [], ◌∷◌, ◌++◌, Option, Some, None, refl}
use Rattle.sw_parse_table.specs.declared.source.Source.{Source}
use Rattle.sw_parse_table.specs.Parts.{Place, Includes}
use Rattle.sw_parse_table.specs.Sources.{span_between}
use Rattle.sw_parse_table.specs.Actions.{name_at, to_param, mixin_of, to_include_name}
use Rattle.sw_parse_statement_text.specs.Rows.{place_in}
use Rattle.sw_parse_statement_heads.specs.declared.param.BehindName.{BehindName}
use Rattle.sw_parse_statement_heads.specs.declared.param.BehindName.TheVariants as behinds
use Rattle.sw_parse_statement_heads.specs.CallableRows.{behind_parts, named_part, namespace_in}

module _ (source : Source) where
  pub mixin_is : (at behind : ℕ) (namespace : Option ℕ) (name : ℕ)
      → to_include_name source at behind (place_in namespace ++ Place name ∷ []) ≡ Includes (mixin_of source
      (namespace_in source namespace) name (span_between source at behind) []) ∷ []
  mixin_is at behind None name = refl
  mixin_is at behind (Some place) name = refl

  pub param_is : (at behind name : ℕ) (said : BehindName)
      → to_param source at behind (Place name ∷ behind_parts said) ≡ named_part (name_at source name) said ∷ []
  param_is at behind name behinds.Nothing = refl
  param_is at behind name (behinds.Default value) = refl
  param_is at behind name (behinds.Rest dots) = refl
