-- When two values are equal (`==`; Sass reference documentation, "Equality Operators"): numbers as quantities, strings by
-- their text, colours by channels and alpha, lists by items, separator and brackets, maps by their pairs in any order. An
-- argument list counts as a comma list, and a list without items and brackets is equal to the empty map.
use Rattle.std.specs.Prelude.{◌≡◌, Bool, true, false, not, ◌&&◌, ◌==◌, if◌then◌else◌, List, [], ◌∷◌, map, is_some, bytes_eq, Option, Some, None}
use Rattle.std.specs.Cmp.Lexicographic.{pointwise}
use Rattle.sw_units.specs.Numbers.{are_equal}
use Rattle.sw_colour.specs.Colours.{are_equal as colours_are_equal}
use Rattle.sw_values.specs.declared.plain.Separator.{Separator}
use Rattle.sw_values.specs.declared.plain.Separator.TheVariants as separators
use Rattle.sw_values.specs.declared.plain.Plain.{Plain}
use Rattle.sw_values.specs.declared.value.Node.{Node}
use Rattle.sw_values.specs.declared.value.Node.TheVariants as N
use Rattle.sw_values.specs.Canon.{canon, canon_pair, map_words, is_empty, truth_word, separator_word}

-- the same counts of both
abbrev pub is_equal : Plain → Plain → Bool
is_equal one other = bytes_eq (canon one) (canon other)

-- ---- the rules, kind by kind, over an equality of parts

abbrev pub same_separator : Separator → Separator → Bool
same_separator one other = separator_word one == separator_word other

abbrev pub same_truth : Bool → Bool → Bool
same_truth one other = truth_word one == truth_word other

-- a list without items and brackets
abbrev pub is_nothing : Bool → List Plain → Bool
is_nothing bracketed items = is_empty items && not bracketed

abbrev pub lists_alike : (Plain → Plain → Bool)
    → Separator → Bool → List Plain → Separator → Bool → List Plain → Bool
lists_alike same separator bracketed items other other_bracketed others =
    if is_nothing bracketed items then is_nothing other_bracketed others
    else same_separator separator other && same_truth bracketed other_bracketed && pointwise same items others

-- the value of the first key that is equal to this one
abbrev pub value_for : (Plain → Plain → Bool) → Plain → List (Plain × Plain) → Option Plain
value_for same key [] = None
value_for same key (p ∷ pairs) = if same key p.0 then Some p.1 else value_for same key pairs

abbrev pub is_value : (Plain → Plain → Bool) → Plain → Option Plain → Bool
is_value same value None = false
is_value same value (Some other) = same value other

-- each key of the one is a key of the other, with an equal value
abbrev pub pairs_within : (Plain → Plain → Bool) → List (Plain × Plain) → List (Plain × Plain) → Bool
pairs_within same [] others = true
pairs_within same (p ∷ pairs) others = is_value same p.1 (value_for same p.0 others) && pairs_within same pairs others

-- each key of the one is a key of the other
abbrev pub keys_within : (Plain → Plain → Bool) → List (Plain × Plain) → List (Plain × Plain) → Bool
keys_within same [] others = true
keys_within same (p ∷ pairs) others = is_some (value_for same p.0 others) && keys_within same pairs others

abbrev pub maps_alike : (Plain → Plain → Bool) → List (Plain × Plain) → List (Plain × Plain) → Bool
maps_alike same pairs others = keys_within same others pairs && pairs_within same pairs others

abbrev pub alike : (Plain → Plain → Bool) → Node → Node → Bool
alike same (N.Number number) (N.Number other) = are_equal number other
alike same (N.Text text quoted) (N.Text other other_quoted) = bytes_eq text other
alike same (N.Colour colour) (N.Colour other) = colours_are_equal colour other
alike same (N.List items separator bracketed) (N.List others other other_bracketed) =
    lists_alike same separator bracketed items other other_bracketed others
alike same (N.List items separator bracketed) (N.Args others named) =
    lists_alike same separator bracketed items separators.Comma false others
alike same (N.List items separator bracketed) (N.Map pairs) = is_nothing bracketed items && is_empty pairs
alike same (N.Args items named) (N.List others other other_bracketed) =
    lists_alike same separators.Comma false items other other_bracketed others
alike same (N.Args items named) (N.Args others other_named) =
    lists_alike same separators.Comma false items separators.Comma false others
alike same (N.Args items named) (N.Map pairs) = is_nothing false items && is_empty pairs
alike same (N.Map pairs) (N.List items separator bracketed) = is_nothing bracketed items && is_empty pairs
alike same (N.Map pairs) (N.Args items named) = is_nothing false items && is_empty pairs
alike same (N.Map pairs) (N.Map others) = maps_alike same pairs others
alike same (N.Bool truth) (N.Bool other) = same_truth truth other
alike same N.Null N.Null = true
alike same _ _ = false

-- the words of two maps are equal exactly where the maps are alike; maps have no two equal keys
abbrev pub MapsAreTold : Node → Node → Type 0
MapsAreTold (N.Map pairs) (N.Map others) =
    maps_alike is_equal pairs others ≡ bytes_eq (map_words (map canon_pair pairs)) (map_words (map canon_pair others))
MapsAreTold _ _ = Unit {0}
