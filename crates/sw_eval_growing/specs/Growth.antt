-- Built-in functions that make their first argument grow (Sass reference documentation, "sass:list" and "sass:map").
use Rattle.std.specs.Prelude.{Bool, true, false, List, [], ◌∷◌, length, nat_lt, Option, Some, None, Result, Ok, Err}
use Rattle.sw_values.specs.declared.plain.Plain.{Plain}
use Rattle.sw_values.specs.Growing.{map_pairs}
use Rattle.sw_values.specs.Maps.{AreDistinct}
use Rattle.sw_values.specs.Shape.{node_of}
use Rattle.sw_fn_call.specs.declared.fault.FnFault.{FnFault}
use Rattle.sw_fn_call.specs.Answers.{Answer, with}
use Rattle.sw_fn_call.specs.Arguments.{rest}
use Rattle.sw_fn_list.specs.declared.function.Function.{Function as Lists}
use Rattle.sw_fn_list.specs.declared.function.Function.TheVariants as L
use Rattle.sw_fn_list.specs.Joining.{appended}
use Rattle.sw_fn_list.specs.Separators.{separator_chosen}
use Rattle.sw_fn_map.specs.declared.function.Function.{Function as Maps}
use Rattle.sw_fn_map.specs.declared.function.Function.TheVariants as M
use Rattle.sw_fn_map.specs.Pairs.{Pair, pairs_of}
use Rattle.sw_fn_map.specs.Changes.{parted, set_by, merge_by}
use Rattle.sw_builtins.specs.declared.built_in.BuiltIn.{BuiltIn}
use Rattle.sw_builtins.specs.declared.built_in.BuiltIn.TheVariants as B

abbrev pub list_grows : Lists → Bool
list_grows L.Append = true
list_grows _ = false

abbrev pub map_grows : Maps → Bool
map_grows M.Set = true
map_grows M.Merge = true
map_grows _ = false

-- whether a function makes its first argument grow
abbrev pub grows : BuiltIn → Bool
grows (B.List function) = list_grows function
grows (B.Map function) = map_grows function
grows _ = false

-- a list with a value behind its items, and with a separator that is named
abbrev pub append_to : Plain → Plain → Plain → Answer
append_to list value separator = with (separator_chosen separator) (appended list value)

-- a map with a value at the end of some keys
abbrev pub set_in : Plain → Plain → Answer
set_in map others = with (rest others) (λ args. with (pairs_of map) (λ pairs. set_by pairs (parted args)))

-- a map that is merged with another at the end of some keys
abbrev pub merge_in : Plain → Plain → Answer
merge_in map others = with (rest others) (λ args. with (pairs_of map) (λ pairs. merge_by pairs (parted args)))

-- ---- what is given to a parameter with `...`

-- the only one of some things
abbrev pub one_in : {T : Type 0} → List T → Option T
one_in [] = None
one_in (one ∷ []) = Some one
one_in (_ ∷ _ ∷ _) = None

abbrev pub one_of : {T : Type 0} → Result (List T) FnFault → Option T
one_of (Ok all) = one_in all
one_of (Err _) = None

-- both of two things
abbrev pub two_in : {T : Type 0} → List T → Option (T × T)
two_in [] = None
two_in (_ ∷ []) = None
two_in (first ∷ second ∷ []) = Some (first, second)
two_in (_ ∷ _ ∷ _ ∷ _) = None

abbrev pub two_of : {T : Type 0} → Result (List T) FnFault → Option (T × T)
two_of (Ok all) = two_in all
two_of (Err _) = None

abbrev pub pairs_by : Option Plain → Option Pair
pairs_by None = None
pairs_by (Some map) = one_of (pairs_of map)

-- the pair of a map that has no other, where that map is all that is given
abbrev pub pairs_given : Plain → Option Pair
pairs_given others = pairs_by (one_of (rest others))

-- ---- maps with pairs

abbrev pub are_some : Option (List Pair) → Bool
are_some None = false
are_some (Some pairs) = nat_lt 0 (length pairs)

-- whether a value is a map with a pair
abbrev pub has_pairs : Plain → Bool
has_pairs value = are_some (map_pairs (node_of value))

abbrev pub AreApart : Option (List Pair) → Type 0
AreApart None = Unit {0}
AreApart (Some pairs) = AreDistinct pairs

-- no two keys of a map are equal
abbrev pub HasDistinctKeys : Plain → Type 0
HasDistinctKeys value = AreApart (map_pairs (node_of value))
