-- Changes of maps in maps (Sass reference documentation, "sass:map", `map.deep-merge`, `map.deep-remove`).
use Rattle.std.specs.Prelude.{ℕ, zero, suc, Bool, true, false, ◌&&◌, List, [], ◌∷◌, ◌++◌, filter, if◌then◌else◌, Option, Some, None, Result, Ok, Err}
use Rattle.sw_values.specs.declared.plain.Plain.{Plain}
use Rattle.sw_values.specs.Canon.{key_canon}
use Rattle.sw_values.specs.Maps.{value_of}
use Rattle.sw_fn_call.specs.declared.fault.FnFault.{FnFault}
use Rattle.sw_fn_call.specs.declared.fault.FnFault.TheVariants as F
use Rattle.sw_fn_call.specs.Answers.{Answer, with}
use Rattle.sw_fn_call.specs.Arguments.{Argument, two, three, rest}
use Rattle.sw_fn_map.specs.Pairs.{Pair, pairs_of, value_at, nested, map_value}
use Rattle.sw_fn_map.specs.Changes.{steps_of, innermost, rebuilt, is_new, without, Parted, parted}

-- ---- deep-merge

-- two values of one key: maps are merged, else the second stands
abbrev pub met : (List Pair → List Pair → Answer) → Plain → Result (List Pair) FnFault → Result (List Pair) FnFault
    → Answer
met further value (Ok one) (Ok other) = further one other
met further value (Ok one) (Err _) = Ok value
met further value (Err _) second = Ok value

abbrev pub deep_value : (List Pair → List Pair → Answer) → Plain → Option Plain → Answer
deep_value further old None = Ok old
deep_value further old (Some value) = met further value (pairs_of old) (pairs_of value)

abbrev pub deep_pair : (List Pair → List Pair → Answer) → Pair → List Pair → Result Pair FnFault
deep_pair further p other = with (deep_value further p.1 (value_of other (key_canon p))) (λ value. Ok (p.0, value))

-- the pairs of the first map, whose maps are merged with those of the other
abbrev pub deep_pairs : (List Pair → List Pair → Answer) → List Pair → List Pair → Result (List Pair) FnFault
deep_pairs further [] other = Ok []
deep_pairs further (p ∷ pairs) other =
    with (deep_pair further p other) (λ made. with (deep_pairs further pairs other) (λ rest. Ok (made ∷ rest)))

-- so many levels are looked into: no value nests deeper
unfoldable pub deep_merged : ℕ → List Pair → List Pair → Answer
deep_merged zero pairs other = map_value other
deep_merged (suc levels) pairs other =
    with (deep_pairs (deep_merged levels) pairs other) (λ all. map_value (all ++ filter (is_new pairs) other))

abbrev pub deep_merge : List Argument → Answer
deep_merge args =
    with (two args)
    (λ values. with (pairs_of values.0) (λ pairs. with (pairs_of values.1) (deep_merged 1001 pairs)))

-- ---- deep-remove

abbrev pub is_map_by : Result (List Pair) FnFault → Bool
is_map_by (Ok pairs) = true
is_map_by (Err _) = false

abbrev pub is_map : Option Plain → Bool
is_map (Some value) = is_map_by (pairs_of value)
is_map None = false

-- each key but the last leads to a map
abbrev pub are_maps : List Pair → List Plain → Bool
are_maps pairs [] = true
are_maps pairs (key ∷ keys) = is_map (value_at pairs key) && are_maps (nested pairs key) keys

-- the map at the end of the way without the last key
abbrev pub removed_inside : List Pair → List Plain → Plain → Answer
removed_inside pairs keys last =
    with (map_value (without (innermost pairs keys) (last ∷ []))) (rebuilt (steps_of pairs keys))

abbrev pub removed_at : List Pair → List Plain → Plain → Answer
removed_at pairs keys last = if are_maps pairs keys then removed_inside pairs keys last else map_value pairs

abbrev pub removed_by : List Pair → Option Parted → Answer
removed_by pairs None = Err F.ArgumentFault
removed_by pairs (Some path) = removed_at pairs path.before path.last

abbrev pub deep_remove : List Argument → Answer
deep_remove args =
    with (three args)
    (λ values. with (rest values.2)
    (λ keys. with (pairs_of values.0) (λ pairs. removed_by pairs (parted (values.1 ∷ keys)))))
