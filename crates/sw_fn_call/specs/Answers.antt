-- What a built-in function answers: a value, or why there is none.
use Rattle.std.specs.Prelude.{◌≡◌, ℕ, ◌+◌, pos, ◌*ℤ◌, Option, Some, None, Result, Ok, Err, if◌then◌else◌}
use Rattle.sw_fixed.specs.declared.fault.NumberFault.{NumberFault}
use Rattle.sw_fixed.specs.declared.fault.NumberFault.TheVariants as numbers
use Rattle.sw_fixed.specs.Arithmetic.{scale}
use Rattle.sw_units.specs.declared.units.Units.{Units}
use Rattle.sw_units.specs.declared.units.UnitNames.TheVariants.{Empty}
use Rattle.sw_units.specs.declared.number.Number.{Number}
use Rattle.sw_units.specs.Numbers.{plain}
use Rattle.sw_values.specs.declared.plain.Plain.{Plain}
use Rattle.sw_values.specs.declared.plain.Plain.TheVariants as P
use Rattle.sw_values.specs.Weight.{is_within}
use Rattle.sw_fn_call.specs.declared.fault.FnFault.{FnFault}
use Rattle.sw_fn_call.specs.declared.fault.FnFault.TheVariants as F

abbrev pub Answer : Type 0
Answer = Result Plain FnFault

-- the answer is this one, or no memory was found
abbrev pub IsAnswer : {T : Type 0} → Result T FnFault → Result T FnFault → Type 0
IsAnswer (Err F.Memory) right = Unit {0}
IsAnswer answer right = answer ≡ right

abbrev pub fault_of : NumberFault → FnFault
fault_of numbers.NumberRange = F.NumberRange
fault_of numbers.DivideByZero = F.DivideByZero
fault_of numbers.UnitFault = F.UnitFault
fault_of numbers.Memory = F.Memory

-- what is made of a value, where there is one
abbrev pub with : {A B : Type 0} → Result A FnFault → (A → Result B FnFault) → Result B FnFault
with (Ok value) next = next value
with (Err fault) next = Err fault

-- a value that passes no limit
abbrev pub within : Plain → Answer
within value = if is_within value then Ok value else Err F.TooLarge

-- a number that was computed, which keeps no sides
abbrev pub of_number : Result Number NumberFault → Answer
of_number (Ok number) = Ok (P.Number (plain number.units number.value))
of_number (Err fault) = Err (fault_of fault)

abbrev pub unitless : Units
unitless = record { over = Empty; under = Empty }

-- a count, as a number without units
abbrev pub count : ℕ → Plain
count n = P.Number (plain unitless (pos n *ℤ pos scale))

-- a place that is counted from 0, as a number that is counted from 1; null where there is none
abbrev pub ordinal : Option ℕ → Plain
ordinal (Some at) = count (at + 1)
ordinal None = P.Null
