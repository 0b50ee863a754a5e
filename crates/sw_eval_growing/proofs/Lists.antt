-- A list with one more item.
use Rattle.std.proofs.Common.{◌≡◌, refl, Bool, true, false, [], ◌∷◌, ◌++◌, if◌then◌else◌, Some, None, is_some}
use Rattle.sw_values.specs.declared.plain.Plain.{Plain}
use Rattle.sw_values.specs.declared.plain.Plain.TheVariants as P
use Rattle.sw_values.specs.declared.plain.Separator.{Separator}
use Rattle.sw_values.specs.declared.plain.Separator.TheVariants as S
use Rattle.sw_values.specs.declared.value.Node.{Node}
use Rattle.sw_values.specs.declared.value.Node.TheVariants as N
use Rattle.sw_values.specs.Growing.{list_parts, list_with, is_list}
use Rattle.sw_values.specs.Shape.{node_of}
use Rattle.sw_fn_list.specs.Items.{items_by, items_of, brackets_by, brackets_of}
use Rattle.sw_fn_list.specs.Separators.{or_else}

grows_by : (value : Plain) (node : Node) (separator : Separator) (item : Plain) → is_some (list_parts node) ≡ true
    → list_with (list_parts node) separator item ≡ P.List (items_by value node ++ item ∷ []) separator (brackets_by node)
grows_by value (N.List items s b) separator item h = refl
grows_by value (N.Number _) separator item h = cc
grows_by value (N.Text _ _) separator item h = cc
grows_by value (N.Colour _) separator item h = cc
grows_by value (N.Map _) separator item h = cc
grows_by value (N.Bool _) separator item h = cc
grows_by value N.Null separator item h = cc
grows_by value (N.Args _ _) separator item h = cc

-- pushing an item is appending it
pub list_grows : (value : Plain) (separator : Separator) (item : Plain) → is_list value ≡ true
    → list_with (list_parts (node_of value)) separator item
    ≡ P.List (items_of value ++ item ∷ []) separator (brackets_of value)
unfolding items_of brackets_of
list_grows value separator item h = grows_by value (node_of value) separator item h

-- a list that has no separator of its own has a space
pub decided_or_space : (two : Bool) → or_else (if two then Some S.Space else None) S.Space ≡ S.Space
decided_or_space true = refl
decided_or_space false = refl
