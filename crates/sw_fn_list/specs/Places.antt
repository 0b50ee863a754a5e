-- How many items a list has, and its items by their places, counted from 1, or from the end where they are below zero
-- (Sass reference documentation, "sass:list").
use Rattle.std.specs.Prelude.{ℕ, ◌-◌, ◌==◌, ◌||◌, nat_lt, ℤ, unsigned_abs, Bool, List, length as len, slice_get, slice_set, Option, Some, None, Result, Ok, Err, if◌then◌else◌}
use Rattle.std.specs.List.{position_from}
use Rattle.sw_fixed.specs.Arithmetic.{whole_of, is_below_zero}
use Rattle.sw_values.specs.declared.plain.Plain.{Plain}
use Rattle.sw_values.specs.declared.plain.Plain.TheVariants as P
use Rattle.sw_values.specs.Equality.{is_equal}
use Rattle.sw_fn_call.specs.declared.fault.FnFault.{FnFault}
use Rattle.sw_fn_call.specs.declared.fault.FnFault.TheVariants as F
use Rattle.sw_fn_call.specs.Answers.{Answer, with, within, count, ordinal}
use Rattle.sw_fn_call.specs.Arguments.{Argument, one, two, three}
use Rattle.sw_fn_call.specs.Kinds.{number_of}
use Rattle.sw_fn_list.specs.Items.{items_of, separator_of, brackets_of}

abbrev pub length : List Argument → Answer
length args = with (one args) (λ list. Ok (count (len (items_of list))))

-- ---- places by number

-- the place of a whole number among so many, counted from 0; its unit is passed over
abbrev pub place_by : ℕ → Option ℤ → Result ℕ FnFault
place_by all None = Err F.Index
place_by all (Some place) =
    if (unsigned_abs place == 0) || nat_lt all (unsigned_abs place) then Err F.Index
    else Ok (if is_below_zero place then all - unsigned_abs place else unsigned_abs place - 1)

-- a place in a list
abbrev pub place_in : Plain → Plain → Result ℕ FnFault
place_in list place = with (number_of place) (λ number. place_by (len (items_of list)) (whole_of number.value))

abbrev pub item_by : Option Plain → Answer
item_by (Some item) = Ok item
item_by None = Err F.Index

abbrev pub item_at : Plain → ℕ → Answer
item_at list place = item_by (slice_get (items_of list) place)

abbrev pub nth : List Argument → Answer
nth args = with (two args) (λ values. with (place_in values.0 values.1) (item_at values.0))

-- another value at a place of a list, whose separator and brackets stay
abbrev pub replaced : Plain → Plain → ℕ → Answer
replaced list value place =
    within (P.List (slice_set (items_of list) place value) (separator_of list) (brackets_of list))

abbrev pub set_nth : List Argument → Answer
set_nth args = with (three args) (λ values. with (place_in values.0 values.1) (replaced values.0 values.2))

-- ---- places by value

-- the first item that is equal
abbrev pub index : List Argument → Answer
index args =
    with (two args) (λ values. Ok (ordinal (position_from (is_equal values.1) 0 (items_of values.0))))
