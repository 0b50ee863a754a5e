-- What the table makes of what was read of `@forward`.
use Rattle.std.proofs.Common.{◌≡◌, ℕ, List, [], ◌∷◌, ◌++◌, map, Option, Some, None, refl, ◌∙◌, ap, if◌then◌else◌}
use Rattle.sw_tree.specs.declared.load.Given.{Given}
use Rattle.sw_tree.specs.declared.load.Member.{Member}
use Rattle.sw_tree.specs.declared.load.Filter.{Filter}
use Rattle.sw_tree.specs.declared.load.Filter.TheVariants as filters
use Rattle.sw_parse_terminals.specs.declared.terminal.Terminal.TheVariants as terminals
use Rattle.sw_parse_table.specs.declared.source.Source.{Source}
use Rattle.sw_parse_table.specs.Parts.{Part, Place, Behind, Members, Gives, States, members_of, givens_of}
use Rattle.sw_parse_table.specs.Sources.{span_between}
use Rattle.sw_parse_table.specs.Actions.{url_at, stands_at, filter_by, forward_of, to_forward}
use Rattle.sw_parse_statement_text.specs.declared.filter.Passed.{Passed}
use Rattle.sw_parse_statement_text.specs.Rows.{place_in, passed_in}
use Rattle.sw_parse_statement_heads.specs.declared.forward.Forwarded.{Forwarded}
use Rattle.sw_parse_statement_heads.specs.Rows.{forward_parts, forward_statement, prefix_in}

pub members_of_members : (xs : List Member) → members_of (map Members xs) ≡ xs
members_of_members [] = refl
members_of_members (x ∷ xs) = ap (λ (ys : List Member). x ∷ ys) (members_of_members xs)

members_before : (xs : List Member) (gs : List Given) → members_of (map Members xs ++ map Gives gs) ≡ members_of
    (map Members xs)
members_before [] [] = refl
members_before [] (g ∷ gs) = members_before [] gs
members_before (x ∷ xs) gs = ap (λ (ys : List Member). x ∷ ys) (members_before xs gs)

givens_past : (xs : List Member) (gs : List Given) → givens_of (map Members xs ++ map Gives gs) ≡ gs
givens_past [] [] = refl
givens_past [] (g ∷ gs) = ap (λ (ys : List Given). g ∷ ys) (givens_past [] gs)
givens_past (x ∷ xs) gs = givens_past xs gs

givens_behind : (passed : Option Passed) (gs : List Given) → givens_of (passed_in passed ++ map Gives gs) ≡ gs
givens_behind None gs = givens_past [] gs
givens_behind (Some passed) gs = givens_past passed.rest gs

module _ (source : Source) where
  filter_before : (passed : Option Passed) (gs : List Given)
      → filter_by source (passed_in passed ++ map Gives gs) ≡ filter_by source (passed_in passed)
  filter_before None [] = refl
  filter_before None (g ∷ gs) = refl
  filter_before (Some passed) gs =
      ap (λ (ms : List Member). if stands_at source passed.word terminals.Show then filters.Show (passed.first
      ∷ ms) else filters.Hide (passed.first ∷ ms)) (members_before passed.rest gs)

  -- with a prefix or without one
  prefixed : (at behind url head : ℕ) (prefix : Option ℕ) (parts : List Part)
      → to_forward source at behind ((Place url ∷ place_in prefix ++ Behind head ∷ []) ++ parts) ≡ forward_of source at
      behind url (prefix_in source prefix) parts
  prefixed at behind url head None parts = refl
  prefixed at behind url head (Some place) parts = refl

  abbrev made : ℕ → ℕ → Forwarded → Filter → List Given → List Part
  made at behind read filter givens =
      States (forward_statement (url_at source read.loaded.url) (prefix_in source read.loaded.prefix) filter givens
      (span_between source at behind)) ∷ []

  pub forward_is : (at behind : ℕ) (read : Forwarded) → to_forward source at behind (forward_parts read) ≡ made at behind
      read (filter_by source (passed_in read.passing.passed)) read.passing.configuration
  forward_is at behind read =
      let parts = passed_in read.passing.passed ++ map Gives read.passing.configuration in
      prefixed at behind read.loaded.url read.head read.loaded.prefix parts
      ∙ ap (λ (filter : Filter). made at behind read filter (givens_of parts)) (filter_before read.passing.passed
      read.passing.configuration)
      ∙ ap (λ (givens : List Given). made at behind read (filter_by source (passed_in read.passing.passed)) givens)
      (givens_behind read.passing.passed read.passing.configuration)
