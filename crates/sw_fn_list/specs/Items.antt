-- Any value as a list (Sass reference documentation, "Lists"): a map is a list of its pairs, an argument list one with
-- commas, and any other value a list of itself.
use Rattle.std.specs.Prelude.{Bool, true, false, List, [], ◌∷◌, map, length, nat_le, Option, Some, None, if◌then◌else◌}
use Rattle.sw_values.specs.declared.plain.Plain.{Plain}
use Rattle.sw_values.specs.declared.plain.Plain.TheVariants as P
use Rattle.sw_values.specs.declared.plain.Separator.{Separator}
use Rattle.sw_values.specs.declared.plain.Separator.TheVariants.{Undecided, Space, Comma, Slash}
use Rattle.sw_values.specs.declared.value.Node.{Node}
use Rattle.sw_values.specs.declared.value.Node.TheVariants as N
use Rattle.sw_values.specs.Shape.{node_of}

-- a key and its value, with a space between
abbrev pub pair_list : Plain × Plain → Plain
pair_list p = P.List (p.0 ∷ p.1 ∷ []) Space false

abbrev pub items_by : Plain → Node → List Plain
items_by value (N.Number _) = value ∷ []
items_by value (N.Text _ _) = value ∷ []
items_by value (N.Colour _) = value ∷ []
items_by value (N.List items _ _) = items
items_by value (N.Map pairs) = map pair_list pairs
items_by value (N.Bool _) = value ∷ []
items_by value N.Null = value ∷ []
items_by value (N.Args items _) = items

unfoldable pub items_of : Plain → List Plain
items_of value = items_by value (node_of value)

-- a map without pairs is an empty list
abbrev pub map_separator : List (Plain × Plain) → Separator
map_separator [] = Undecided
map_separator (p ∷ pairs) = Comma

abbrev pub separator_by : Node → Separator
separator_by (N.Number _) = Undecided
separator_by (N.Text _ _) = Undecided
separator_by (N.Colour _) = Undecided
separator_by (N.List _ separator _) = separator
separator_by (N.Map pairs) = map_separator pairs
separator_by (N.Bool _) = Undecided
separator_by N.Null = Undecided
separator_by (N.Args _ _) = Comma

unfoldable pub separator_of : Plain → Separator
separator_of value = separator_by (node_of value)

-- a list has decided on its separator where it has two items, or was written with a comma or as slash
abbrev pub decided_by : Bool → Separator → Option Separator
decided_by two Comma = Some Comma
decided_by two Slash = Some Slash
decided_by two Space = if two then Some Space else None
decided_by two Undecided = if two then Some Space else None

abbrev pub decided : Plain → Option Separator
decided value = decided_by (nat_le 2 (length (items_of value))) (separator_of value)

abbrev pub brackets_by : Node → Bool
brackets_by (N.Number _) = false
brackets_by (N.Text _ _) = false
brackets_by (N.Colour _) = false
brackets_by (N.List _ _ bracketed) = bracketed
brackets_by (N.Map _) = false
brackets_by (N.Bool _) = false
brackets_by N.Null = false
brackets_by (N.Args _ _) = false

unfoldable pub brackets_of : Plain → Bool
brackets_of value = brackets_by (node_of value)
