-- Numbers near a number, with its units (Sass reference documentation, "sass:math", "Bounding Functions").
use Rattle.std.specs.Prelude.{ℤ, pos, unsigned_abs, List, Result, Ok, Err}
use Rattle.sw_fixed.specs.Arithmetic.{ceiling_whole, floor_whole, nearest_whole}
use Rattle.sw_units.specs.declared.number.Number.{Number}
use Rattle.sw_units.specs.Numbers.{plain}
use Rattle.sw_values.specs.declared.plain.Plain.TheVariants as P
use Rattle.sw_fn_call.specs.declared.fault.FnFault.{FnFault}
use Rattle.sw_fn_call.specs.Answers.{Answer, with}
use Rattle.sw_fn_call.specs.Arguments.{Argument, one}
use Rattle.sw_fn_call.specs.Kinds.{number_of}

-- the one argument, a number
unfoldable pub one_number : List Argument → Result Number FnFault
one_number args = with (one args) number_of

-- a number of the same units
abbrev pub valued : Number → ℤ → Answer
valued number value = Ok (P.Number (plain number.units value))

abbrev pub ceil : List Argument → Answer
ceil args = with (one_number args) (λ number. valued number (ceiling_whole number.value))

abbrev pub floor : List Argument → Answer
floor args = with (one_number args) (λ number. valued number (floor_whole number.value))

-- a half goes away from zero
abbrev pub round : List Argument → Answer
round args = with (one_number args) (λ number. valued number (nearest_whole number.value))

abbrev pub abs : List Argument → Answer
abs args = with (one_number args) (λ number. valued number (pos (unsigned_abs number.value)))
