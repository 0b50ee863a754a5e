-- Quotients, percentages and units (Sass reference documentation, "sass:math", "Unit Functions", "Other Functions").
use Rattle.std.specs.Prelude.{ℕ, ℤ, pos, ◌*ℤ◌, Bool, true, false, List, ◌++◌, codes, Result, Ok, Err, if◌then◌else◌}
use Rattle.sw_fixed.specs.declared.fault.NumberFault.{NumberFault}
use Rattle.sw_fixed.specs.Arithmetic.{scale, product_of}
use Rattle.sw_units.specs.declared.number.Number.{Number}
use Rattle.sw_units.specs.declared.units.Units.{Units}
use Rattle.sw_units.specs.declared.units.UnitNames.TheVariants.{Empty, One}
use Rattle.sw_units.specs.Numbers.{plain, quotient}
use Rattle.sw_units.specs.Units.{is_unitless as without_units, compatible as fit_each_other}
use Rattle.sw_values.specs.declared.plain.Plain.TheVariants as P
use Rattle.sw_values.specs.Texts.{names_text, under_text}
use Rattle.sw_fn_call.specs.declared.fault.FnFault.{FnFault}
use Rattle.sw_fn_call.specs.declared.fault.FnFault.TheVariants as F
use Rattle.sw_fn_call.specs.Answers.{Answer, with, within, of_number, fault_of}
use Rattle.sw_fn_call.specs.Arguments.{Argument, two}
use Rattle.sw_fn_call.specs.Kinds.{number_of}
use Rattle.sw_fn_math.specs.Rounding.{one_number}

-- both arguments, which are numbers
unfoldable pub two_numbers : List Argument → Result (Number × Number) FnFault
two_numbers args =
    with (two args)
    (λ values. with (number_of values.0) (λ first. with (number_of values.1) (λ second. Ok (first, second))))

abbrev pub div : List Argument → Answer
div args = with (two_numbers args) (λ numbers. of_number (quotient numbers.0 numbers.1))

abbrev pub percents : Units
percents = record { over = One (codes "%"); under = Empty }

abbrev pub hundredfold : ℤ → Result ℤ NumberFault
hundredfold value = product_of value (pos 100 *ℤ pos scale)

abbrev pub percents_of : Result ℤ NumberFault → Answer
percents_of (Ok value) = Ok (P.Number (plain percents value))
percents_of (Err fault) = Err (fault_of fault)

-- a number without units alone
abbrev pub percentage : List Argument → Answer
percentage args =
    with (one_number args)
    (λ number. if without_units number.units then percents_of (hundredfold number.value) else Err F.ArgumentFault)

-- as they are written behind a number
abbrev pub units_text : Units → List ℕ
units_text units = names_text units.over ++ under_text units.under

abbrev pub unit : List Argument → Answer
unit args = with (one_number args) (λ number. within (P.Text (units_text number.units) true))

abbrev pub is_unitless : List Argument → Answer
is_unitless args = with (one_number args) (λ number. Ok (P.Bool (without_units number.units)))

-- whether the two can be added and compared
abbrev pub compatible : List Argument → Answer
compatible args = with (two_numbers args) (λ numbers. Ok (P.Bool (fit_each_other numbers.0.units numbers.1.units)))
