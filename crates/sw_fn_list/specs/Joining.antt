-- Lists made of lists (Sass reference documentation, "sass:list").
use Rattle.std.specs.Prelude.{ℕ, zero, suc, Bool, true, false, List, [], ◌∷◌, ◌++◌, length, map, min, slice_get, nat_le, ◌+◌, Option, Some, None, Result, Ok, Err, if◌then◌else◌}
use Rattle.std.specs.List.{filter_map}
use Rattle.sw_values.specs.declared.plain.Plain.{Plain}
use Rattle.sw_values.specs.declared.plain.Plain.TheVariants as P
use Rattle.sw_values.specs.declared.plain.Separator.{Separator}
use Rattle.sw_values.specs.declared.plain.Separator.TheVariants as S
use Rattle.sw_fn_call.specs.declared.fault.FnFault.{FnFault}
use Rattle.sw_fn_call.specs.declared.fault.FnFault.TheVariants as F
use Rattle.sw_fn_call.specs.Answers.{Answer, with, within}
use Rattle.sw_fn_call.specs.Arguments.{Argument, one, three, four, rest}
use Rattle.sw_fn_list.specs.Items.{items_of, brackets_of}
use Rattle.sw_fn_list.specs.Separators.{separator_chosen, brackets_chosen, separator_of_both, separator_of_one, or_else}

abbrev pub joined : Plain → Plain → Option Separator → Bool → Answer
joined first second separator bracketed =
    within (P.List (items_of first ++ items_of second) (or_else separator (separator_of_both first second)) bracketed)

abbrev pub join : List Argument → Answer
join args =
    with (four args)
    (λ values. with (separator_chosen values.2)
    (λ separator. joined values.0 values.1 separator (brackets_chosen values.0 values.3)))

abbrev pub appended : Plain → Plain → Option Separator → Answer
appended list value separator =
    within (P.List (items_of list ++ value ∷ []) (or_else separator (separator_of_one list)) (brackets_of list))

abbrev pub append : List Argument → Answer
append args = with (three args) (λ values. with (separator_chosen values.2) (appended values.0 values.1))

-- two values at least
abbrev pub slashed : List Plain → Answer
slashed values = if nat_le 2 (length values) then within (P.List values S.Slash false) else Err F.ArgumentFault

abbrev pub slash : List Argument → Answer
slash args = with (one args) (λ value. with (rest value) slashed)

-- ---- zip

abbrev pub shortest_from : ℕ → List (List Plain) → ℕ
shortest_from n [] = n
shortest_from n (column ∷ columns) = shortest_from (min n (length column)) columns

-- how many items the shortest of some lists has
abbrev pub shortest : List (List Plain) → ℕ
shortest [] = 0
shortest (column ∷ columns) = shortest_from (length column) columns

-- the items at a place, with a space between
abbrev pub row : List (List Plain) → ℕ → Plain
row columns at = P.List (filter_map (λ column. slice_get column at) columns) S.Space false

abbrev pub rows_from : List (List Plain) → ℕ → ℕ → List Plain
rows_from columns at zero = []
rows_from columns at (suc n) = row columns at ∷ rows_from columns (at + 1) n

abbrev pub zipped : List Plain → Answer
zipped lists =
    let columns = map items_of lists in within (P.List (rows_from columns 0 (shortest columns)) S.Comma false)

-- a comma list of the items at each place that all lists have
abbrev pub zip : List Argument → Answer
zip args = with (one args) (λ value. with (rest value) zipped)
