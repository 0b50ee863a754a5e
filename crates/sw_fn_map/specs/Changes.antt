-- Maps with other pairs (Sass reference documentation, "sass:map"). A key that is there keeps its place and its
-- spelling, and a new one comes last.
use Rattle.std.specs.Prelude.{ℕ, Bool, not, List, [], ◌∷◌, ◌++◌, map, filter, bytes_eq, unwrap_or, Option, Some, None, Ok, Err}
use Rattle.std.specs.Option.{is_some}
use Rattle.std.specs.List.{list_any}
use Rattle.indexmap.specs.IndexSet.{insert_key}
use Rattle.sw_values.specs.declared.plain.Plain.{Plain}
use Rattle.sw_values.specs.Canon.{canon, key_canon}
use Rattle.sw_values.specs.Maps.{value_of, with_value}
use Rattle.sw_fn_call.specs.declared.fault.FnFault.TheVariants as F
use Rattle.sw_fn_call.specs.Answers.{Answer, with}
use Rattle.sw_fn_call.specs.Arguments.{Argument, two, rest}
use Rattle.sw_fn_map.specs.Pairs.{Pair, pairs_of, nested, map_value}

-- ---- behind a path of keys

-- each map on the way with the key at which the next one stands
abbrev pub steps_of : List Pair → List Plain → List (List Pair × Plain)
steps_of pairs [] = []
steps_of pairs (key ∷ keys) = (pairs, key) ∷ steps_of (nested pairs key) keys

-- the map at the end of the way
abbrev pub innermost : List Pair → List Plain → List Pair
innermost pairs [] = pairs
innermost pairs (key ∷ keys) = innermost (nested pairs key) keys

-- the maps on the way with another value at its end
abbrev pub rebuilt : List (List Pair × Plain) → Plain → Answer
rebuilt [] value = Ok value
rebuilt (step ∷ steps) value = with (rebuilt steps value) (λ inner. map_value (with_value step.0 step.1 inner))

-- some values before a last one
pub record Parted : Type 0 where
  pub before : List Plain
  pub last : Plain

abbrev pub parted_by : Plain → Option Parted → Parted
parted_by value None = record { before = []; last = value }
parted_by value (Some parts) = record { before = value ∷ parts.before; last = parts.last }

abbrev pub parted : List Plain → Option Parted
parted [] = None
parted (value ∷ values) = Some (parted_by value (parted values))

-- ---- set

-- a path of one key at least
abbrev pub set_at : List Pair → List Plain → Plain → Answer
set_at pairs [] value = Err F.ArgumentFault
set_at pairs (key ∷ keys) value = rebuilt (steps_of pairs (key ∷ keys)) value

abbrev pub set_by : List Pair → Option Parted → Answer
set_by pairs None = Err F.ArgumentFault
set_by pairs (Some parts) = set_at pairs parts.before parts.last

abbrev pub set : List Argument → Answer
set args =
    with (two args)
    (λ values. with (rest values.1) (λ args. with (pairs_of values.0) (λ pairs. set_by pairs (parted args))))

-- ---- merge

-- another map's value at the key of a pair, or that of the pair
abbrev pub updated : List Pair → Pair → Pair
updated other p = (p.0, unwrap_or (value_of other (key_canon p)) p.1)

abbrev pub is_new : List Pair → Pair → Bool
is_new pairs p = not (is_some (value_of pairs (key_canon p)))

-- the pairs of both, with the other's values
abbrev pub merged : List Pair → List Pair → List Pair
merged pairs other = map (updated other) pairs ++ filter (is_new pairs) other

abbrev pub merged_at : List Pair → List Plain → List Pair → Answer
merged_at pairs keys other =
    with (map_value (merged (innermost pairs keys) other)) (rebuilt (steps_of pairs keys))

abbrev pub merge_by : List Pair → Option Parted → Answer
merge_by pairs None = Err F.ArgumentFault
merge_by pairs (Some parts) = with (pairs_of parts.last) (merged_at pairs parts.before)

-- keys before the last argument lead to the map that is merged with it
abbrev pub merge : List Argument → Answer
merge args =
    with (two args)
    (λ values. with (rest values.1) (λ args. with (pairs_of values.0) (λ pairs. merge_by pairs (parted args))))

-- ---- remove

-- what of some keys counts for `==`, each once
abbrev pub canons_after : List (List ℕ) → List Plain → List (List ℕ)
canons_after canons [] = canons
canons_after canons (key ∷ keys) = canons_after (insert_key bytes_eq canons (canon key)) keys

abbrev pub is_among : List (List ℕ) → Pair → Bool
is_among canons p = list_any (bytes_eq (key_canon p)) canons

-- the pairs with none of these keys
abbrev pub without : List Pair → List Plain → List Pair
without pairs keys = filter (λ p. not (is_among (canons_after [] keys) p)) pairs

abbrev pub remove : List Argument → Answer
remove args =
    with (two args)
    (λ values. with (rest values.1) (λ keys. with (pairs_of values.0) (λ pairs. map_value (without pairs keys))))
