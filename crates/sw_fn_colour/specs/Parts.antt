-- The parts of a colour as numbers (Sass reference documentation, "sass:color"; CSS Color Level 4, "HSL Colors").
use Rattle.std.specs.Prelude.{ℕ, ℤ, List, codes, Result, Ok, Err}
use Rattle.sw_units.specs.declared.units.Units.{Units}
use Rattle.sw_units.specs.declared.units.UnitNames.TheVariants.{Empty, One}
use Rattle.sw_units.specs.Numbers.{plain}
use Rattle.sw_colour.specs.Hues.{hsl_of}
use Rattle.sw_values.specs.declared.plain.Plain.TheVariants as P
use Rattle.sw_fn_call.specs.declared.fault.FnFault.{FnFault}
use Rattle.sw_fn_call.specs.Answers.{Answer, with, count, unitless}
use Rattle.sw_fn_call.specs.Arguments.{Argument}
use Rattle.sw_fn_colour.specs.Colours.{one_colour}

-- a number of one unit
abbrev pub in_unit : List ℕ → ℤ → Answer
in_unit unit value = Ok (P.Number (plain (record { over = One unit; under = Empty }) value))

abbrev pub red : List Argument → Answer
red args = with (one_colour args) (λ colour. Ok (count colour.red))

abbrev pub green : List Argument → Answer
green args = with (one_colour args) (λ colour. Ok (count colour.green))

abbrev pub blue : List Argument → Answer
blue args = with (one_colour args) (λ colour. Ok (count colour.blue))

abbrev pub hue : List Argument → Answer
hue args = with (one_colour args) (λ colour. in_unit (codes "deg") (hsl_of colour).hue)

abbrev pub saturation : List Argument → Answer
saturation args = with (one_colour args) (λ colour. in_unit (codes "%") (hsl_of colour).saturation)

abbrev pub lightness : List Argument → Answer
lightness args = with (one_colour args) (λ colour. in_unit (codes "%") (hsl_of colour).lightness)

abbrev pub alpha : List Argument → Answer
alpha args = with (one_colour args) (λ colour. Ok (P.Number (plain unitless colour.alpha)))
