-- The walk comes back from media queries.
use Rattle.std.proofs.Common.{◌≡◌, Bool, false, List, [], refl}
use Rattle.sw_parse_terminals.specs.declared.terminal.Terminal.{Terminal}
use Rattle.sw_parse_lexemes.specs.declared.sort.Sort.{Sort}
use Rattle.sw_convert_passing.specs.Written.{Written}
use Rattle.sw_convert_heads_passing.specs.Media.{Joins, and_joins, or_joins, Compared, one_side, equal_sides, Inside, feature_row, feature_compared, Feature, insert_feature, condition_feature, inside_feature, Features, no_feature, more_features, Condition, not_condition, joined_condition, TypeName, named_type, inserted_type, minus_type, TypeRest, type_features, type_not, Typed, typed, Query, only_query, not_type_query, typed_query, not_query, joined_query, Queries, one_query, more_queries}
use Rattle.sw_convert_heads_laid.specs.Marks.{Plain, sort_mark}
use Rattle.sw_convert_heads_laid.proofs.Walk.{Free, nothing, still, join, insert, parens}
use Rattle.sw_convert_heads_laid.proofs.Values.{name_plain, value, all_parts, all_items, rows}

joins_plain : {word : Sort} {terminal : Terminal} → Joins word terminal → sort_mark word ≡ Plain
joins_plain and_joins = refl
joins_plain or_joins = refl

module _ (custom : Bool) where
  compared : {spaced : Bool} {tokens : List Written} → Compared spaced tokens → Free custom tokens
  compared (one_side v) = value custom v
  compared (equal_sides {left = left} {right = right} one v) =
      join custom left _ (compared one) (still custom _ right refl (value custom v))

  insides : {tokens : List Written} → Inside tokens → Free custom tokens
  insides (feature_row row) = rows custom row
  insides (feature_compared by) = compared by

  mutual
    feature : {spaced : Bool} {tokens : List Written} → Feature spaced tokens → Free custom tokens
    feature (insert_feature {spaced = spaced} {inner = inner} inside) =
        insert custom spaced _ inner [] (all_items custom inside) (nothing custom)
    feature (condition_feature {inner = inner} by o) =
        parens custom _ inner _ [] refl refl (λ bs. tt) (condition by) (nothing custom)
    feature (inside_feature {inner = inner} by o) =
        parens custom _ inner _ [] refl refl (λ bs. tt) (insides by) (nothing custom)

    features : {word : Sort} {terminal : Terminal} {tokens : List Written} → sort_mark word ≡ Plain
        → Features word terminal tokens → Free custom tokens
    features p no_feature = nothing custom
    features p (more_features {one = one} {rest = rest} by more) =
        still custom _ _ p (join custom one rest (feature by) (features p more))

    condition : {tokens : List Written} → Condition tokens → Free custom tokens
    condition (not_condition by) = still custom _ _ refl (feature by)
    condition (joined_condition {one = one} {rest = rest} joins by more) =
        join custom one rest (feature by) (features (joins_plain joins) more)

  type_names : {spaced : Bool} {tokens : List Written} → TypeName spaced tokens → Free custom tokens
  type_names (named_type {parts = more} sort n t by) = still custom _ more (name_plain sort n) (all_parts custom by)
  type_names (inserted_type {spaced = spaced} {inner = inner} {parts = more} inside by) =
      insert custom spaced _ inner more (all_items custom inside) (all_parts custom by)
  type_names (minus_type {inner = inner} {parts = more} inside by) =
      still custom _ _ refl (insert custom false _ inner more (all_items custom inside) (all_parts custom by))

  type_rests : {tokens : List Written} → TypeRest tokens → Free custom tokens
  type_rests (type_features more) = features refl more
  type_rests (type_not by) = still custom _ _ refl (still custom _ _ refl (feature by))

  types : {tokens : List Written} → Typed tokens → Free custom tokens
  types (typed {name = name} {rest = rest} by more) = join custom name rest (type_names by) (type_rests more)

  query : {tokens : List Written} → Query tokens → Free custom tokens
  query (only_query by b) = still custom _ _ refl (types by)
  query (not_type_query by) = still custom _ _ refl (types by)
  query (typed_query by) = types by
  query (not_query by o) = still custom _ _ refl (feature by)
  query (joined_query {one = one} {rest = rest} joins by more) =
      join custom one rest (feature by) (features (joins_plain joins) more)

  pub queries : {tokens : List Written} → Queries tokens → Free custom tokens
  queries (one_query by) = query by
  queries (more_queries {one = one} {rest = rest} by more) =
      join custom one _ (query by) (still custom _ rest refl (queries more))
