-- What the table makes of what was read of `@use`.
use Rattle.std.proofs.Common.{◌≡◌, ℕ, List, [], ◌∷◌, ◌++◌, map, Option, Some, None, refl, ◌∙◌, ap}
use Rattle.sw_tree.specs.declared.load.Given.{Given}
use Rattle.sw_tree.specs.declared.load.Namespace.{Namespace}
use Rattle.sw_tree.specs.declared.statement.Statement.TheVariants as statements
use Rattle.sw_parse_table.specs.declared.source.Source.{Source}
use Rattle.sw_parse_table.specs.Parts.{Part, Gives, States, givens_of}
use Rattle.sw_parse_table.specs.Sources.{span_between}
use Rattle.sw_parse_table.specs.Actions.{url_at, namespace_by, to_use}
use Rattle.sw_parse_statement_text.specs.declared.loading.Loaded.{Loaded}
use Rattle.sw_parse_statement_text.specs.Rows.{place_in}
use Rattle.sw_parse_statement_text.specs.Loads.{loaded_parts}

givens_of_givens : (xs : List Given) → givens_of (map Gives xs) ≡ xs
givens_of_givens [] = refl
givens_of_givens (x ∷ xs) = ap (λ (ys : List Given). x ∷ ys) (givens_of_givens xs)

givens_behind : (name : Option ℕ) (xs : List Given) → givens_of (place_in name ++ map Gives xs) ≡ xs
givens_behind None xs = givens_of_givens xs
givens_behind (Some place) xs = givens_of_givens xs

module _ (source : Source) where
  namespace_before : (url : ℕ) (name : Option ℕ) (xs : List Given)
      → namespace_by source url (place_in name ++ map Gives xs) ≡ namespace_by source url (place_in name)
  namespace_before url None [] = refl
  namespace_before url None (x ∷ xs) = refl
  namespace_before url (Some place) xs = refl

  abbrev made : ℕ → ℕ → ℕ → Namespace → List Given → List Part
  made at behind url namespace givens =
      States (statements.Use (record
      { url = url_at source url; namespace = namespace; configuration = givens; span = span_between source at behind }))
      ∷ []

  pub use_is : (at behind : ℕ) (loaded : Loaded) → to_use source at behind (loaded_parts loaded)
      ≡ made at behind loaded.url (namespace_by source loaded.url (place_in loaded.name)) loaded.configuration
  use_is at behind loaded =
      ap (λ (namespace : Namespace). made at behind loaded.url namespace (givens_of (place_in loaded.name ++ map Gives
      loaded.configuration))) (namespace_before loaded.url loaded.name loaded.configuration)
      ∙ ap (λ (givens : List Given). made at behind loaded.url (namespace_by source loaded.url (place_in loaded.name))
      givens) (givens_behind loaded.name loaded.configuration)
