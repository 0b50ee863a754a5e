-- Any value as a list (Sass reference documentation, "Lists"): a map is a list of its pairs, an argument list one of
-- its items, and any other value a list of itself.
use Rattle.std.specs.Prelude.{false, List, [], ◌∷◌, map}
use Rattle.sw_values.specs.declared.plain.Plain.{Plain}
use Rattle.sw_values.specs.declared.plain.Plain.TheVariants as P
use Rattle.sw_values.specs.declared.plain.Separator.TheVariants.{Space}
use Rattle.sw_values.specs.declared.value.Node.{Node}
use Rattle.sw_values.specs.declared.value.Node.TheVariants as N
use Rattle.sw_values.specs.Shape.{node_of}

-- a key and its value, with a space between
abbrev pub pair_list : Plain × Plain → Plain
pair_list p = P.List (p.0 ∷ p.1 ∷ []) Space false

abbrev pub items_by : Plain → Node → List Plain
items_by value (N.Number _) = value ∷ []
items_by value (N.Text _ _) = value ∷ []
items_by value (N.Colour _) = value ∷ []
items_by value (N.List items _ _) = items
items_by value (N.Map pairs) = map pair_list pairs
items_by value (N.Bool _) = value ∷ []
items_by value N.Null = value ∷ []
items_by value (N.Args items _) = items

unfoldable pub items_of : Plain → List Plain
items_of value = items_by value (node_of value)
