-- A value as a map (Sass reference documentation, "Maps"): a list without items is a map without pairs.
use Rattle.std.specs.Prelude.{List, [], ◌∷◌, Option, Some, None, Result, Ok, Err}
use Rattle.sw_values.specs.declared.plain.Plain.{Plain}
use Rattle.sw_values.specs.declared.plain.Plain.TheVariants as P
use Rattle.sw_values.specs.declared.value.Node.{Node}
use Rattle.sw_values.specs.declared.value.Node.TheVariants as N
use Rattle.sw_values.specs.Shape.{node_of}
use Rattle.sw_values.specs.Canon.{canon}
use Rattle.sw_values.specs.Maps.{value_of}
use Rattle.sw_fn_call.specs.declared.fault.FnFault.{FnFault}
use Rattle.sw_fn_call.specs.declared.fault.FnFault.TheVariants as F
use Rattle.sw_fn_call.specs.Answers.{Answer, within}

-- a key and its value
abbrev pub Pair : Type 0
Pair = Plain × Plain

abbrev pub no_items : List Plain → Result (List Pair) FnFault
no_items [] = Ok []
no_items (item ∷ items) = Err F.TypeFault

abbrev pub pairs_by : Node → Result (List Pair) FnFault
pairs_by (N.Number _) = Err F.TypeFault
pairs_by (N.Text _ _) = Err F.TypeFault
pairs_by (N.Colour _) = Err F.TypeFault
pairs_by (N.List items _ _) = no_items items
pairs_by (N.Map pairs) = Ok pairs
pairs_by (N.Bool _) = Err F.TypeFault
pairs_by N.Null = Err F.TypeFault
pairs_by (N.Args items _) = no_items items

unfoldable pub pairs_of : Plain → Result (List Pair) FnFault
pairs_of value = pairs_by (node_of value)

-- what a map has at a key
abbrev pub value_at : List Pair → Plain → Option Plain
value_at pairs key = value_of pairs (canon key)

abbrev pub pairs_or_none : Result (List Pair) FnFault → List Pair
pairs_or_none (Ok pairs) = pairs
pairs_or_none (Err _) = []

abbrev pub nested_by : Option Plain → List Pair
nested_by (Some value) = pairs_or_none (pairs_of value)
nested_by None = []

-- the map that a map has at a key; anything else, and nothing, counts as one without pairs
unfoldable pub nested : List Pair → Plain → List Pair
nested pairs key = nested_by (value_at pairs key)

-- the map of some pairs
abbrev pub map_value : List Pair → Answer
map_value pairs = within (P.Map pairs)
