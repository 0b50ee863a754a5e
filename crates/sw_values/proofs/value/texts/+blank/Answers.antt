use Rattle.std.proofs.Common.{◌≡◌, ◌+◌, ◌≤◌, arith, refl}
use Rattle.sw_values.specs.Weight.{nest, greatest_by}
use Rattle.sw_values.specs.Sizes.{nest_list}
use Rattle.sw_values.proofs.Parts.{args_le}
use Rattle.sw_values.proofs.Shows.{shown_number, shown_text, shown_colour, shown_list, shown_map, shown_bool, shown_null, shown_args}
use Rattle.sw_values.proofs.value.texts.+blank.Goals as goal

pub is_blank-list_is_blank-requires : goal.is_blank-list_is_blank-requires
is_blank-list_is_blank-requires t c =
    let e : nest c.args.value.now ≡ greatest_by nest c.in-List.items + 1 = rw (← c.value.view_is, c.in-List.is) (nest_list _ _ _) in
    let k : greatest_by nest c.as_slice.result.now ≡ greatest_by nest c.in-List.items = rw (c.as_slice.ensures, c.get.ensures) refl in
    (omega (arith, e, k, c.decreases), tt)

pub is_blank-list_is_blank-requires-in-Args : goal.is_blank-list_is_blank-requires-in-Args
is_blank-list_is_blank-requires-in-Args t c =
    let e : greatest_by nest c.in-Args.items + 1 ≤ nest c.args.value.now = rw (← c.value.view_is, c.in-Args.is) (args_le _ _) in
    let k : greatest_by nest c.as_slice-in-Args.result.now ≡ greatest_by nest c.in-Args.items = rw (c.as_slice-in-Args.ensures, c.get-in-Args.ensures) refl in
    (omega (arith, e, k, c.decreases), tt)

pub is_blank-returns-in-Number : goal.is_blank-returns-in-Number
is_blank-returns-in-Number t c = rw (← c.value.view_is, c.in-Number.is, shown_number _ _) refl

pub is_blank-returns-in-Colour : goal.is_blank-returns-in-Colour
is_blank-returns-in-Colour t c = rw (← c.value.view_is, c.in-Colour.is, shown_colour _ _) refl

pub is_blank-returns-in-Map : goal.is_blank-returns-in-Map
is_blank-returns-in-Map t c = rw (← c.value.view_is, c.in-Map.is, shown_map _ _) refl

pub is_blank-returns-in-Bool : goal.is_blank-returns-in-Bool
is_blank-returns-in-Bool t c = rw (← c.value.view_is, c.in-Bool.is, shown_bool _ _) refl

pub is_blank-returns-in-Null : goal.is_blank-returns-in-Null
is_blank-returns-in-Null t c = rw (← c.value.view_is, c.in-Null.is, shown_null _) refl

pub is_blank-returns-in-Text : goal.is_blank-returns-in-Text
is_blank-returns-in-Text t c = rw (← c.value.view_is, c.in-Text.is, shown_text _ _ _) (rw c.as_str.ensures at c.is_blank_text.ensures)

pub is_blank-returns-in-List : goal.is_blank-returns-in-List
is_blank-returns-in-List t c = rw (← c.value.view_is, c.in-List.is, shown_list _ _ _ _) (rw (c.as_slice.ensures, c.get.ensures) at c.list_is_blank.ensures)

pub is_blank-returns-in-Args : goal.is_blank-returns-in-Args
is_blank-returns-in-Args t c = rw (← c.value.view_is, c.in-Args.is, shown_args _ _ _) (rw (c.as_slice-in-Args.ensures, c.get-in-Args.ensures) at c.list_is_blank-in-Args.ensures)
