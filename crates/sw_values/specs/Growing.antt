-- A list with one more item, and a map with a value for a key.
use Rattle.std.specs.Prelude.{Bool, List, [], ◌∷◌, ◌++◌, Option, Some, None, is_some}
use Rattle.sw_values.specs.declared.fault.ValueFault.{ValueFault}
use Rattle.sw_values.specs.declared.fault.ValueFault.TheVariants as F
use Rattle.sw_values.specs.declared.plain.Separator.{Separator}
use Rattle.sw_values.specs.declared.plain.Plain.{Plain}
use Rattle.sw_values.specs.declared.plain.Plain.TheVariants as P
use Rattle.sw_values.specs.declared.value.Node.{Node}
use Rattle.sw_values.specs.declared.value.Node.TheVariants as N
use Rattle.sw_values.specs.Maps.{with_value}
use Rattle.sw_values.specs.Shape.{node_of, IsTooLarge}

-- the items of a list, and whether it stands in brackets
abbrev pub list_parts : Node → Option (List Plain × Bool)
list_parts (N.Number _) = None
list_parts (N.Text _ _) = None
list_parts (N.Colour _) = None
list_parts (N.List items _ bracketed) = Some (items, bracketed)
list_parts (N.Map _) = None
list_parts (N.Bool _) = None
list_parts N.Null = None
list_parts (N.Args _ _) = None

abbrev pub is_list : Plain → Bool
is_list value = is_some (list_parts (node_of value))

-- a list with an item behind its items
abbrev pub list_with : Option (List Plain × Bool) → Separator → Plain → Plain
list_with None separator item = item
list_with (Some parts) separator item = P.List (parts.0 ++ item ∷ []) separator parts.1

-- the pairs of a map
abbrev pub map_pairs : Node → Option (List (Plain × Plain))
map_pairs (N.Number _) = None
map_pairs (N.Text _ _) = None
map_pairs (N.Colour _) = None
map_pairs (N.List _ _ _) = None
map_pairs (N.Map pairs) = Some pairs
map_pairs (N.Bool _) = None
map_pairs N.Null = None
map_pairs (N.Args _ _) = None

abbrev pub is_map : Plain → Bool
is_map value = is_some (map_pairs (node_of value))

-- a map with a value for a key
abbrev pub map_with : Option (List (Plain × Plain)) → Plain → Plain → Plain
map_with None key value = value
map_with (Some pairs) key value = P.Map (with_value pairs key value)

abbrev pub IsGrowthFault : Plain → ValueFault → Type 0
IsGrowthFault value F.TooLarge = IsTooLarge value
IsGrowthFault value F.NotCss = ⊥
IsGrowthFault value (F.DuplicateKey place) = ⊥
IsGrowthFault value F.Memory = Unit {0}
