-- What an operator answers.
use Rattle.std.specs.Prelude.{◌≡◌, Result, Ok, Err}
use Rattle.sw_fixed.specs.declared.fault.NumberFault.{NumberFault}
use Rattle.sw_fixed.specs.declared.fault.NumberFault.TheVariants as numbers
use Rattle.sw_units.specs.declared.number.Number.{Number}
use Rattle.sw_units.specs.Numbers.{plain as without_sides}
use Rattle.sw_values.specs.declared.plain.Plain.{Plain}
use Rattle.sw_values.specs.declared.plain.Plain.TheVariants as P
use Rattle.sw_ops.specs.declared.fault.OpFault.{OpFault}
use Rattle.sw_ops.specs.declared.fault.OpFault.TheVariants as F

-- the answer is this one, or no memory was found
abbrev pub IsAnswer : {T : Type 0} → Result T OpFault → Result T OpFault → Type 0
IsAnswer (Err F.Memory) right = Unit {0}
IsAnswer answer right = answer ≡ right

abbrev pub Answer : Type 0
Answer = Result Plain OpFault

abbrev pub fault_of : NumberFault → OpFault
fault_of numbers.NumberRange = F.NumberRange
fault_of numbers.DivideByZero = F.DivideByZero
fault_of numbers.UnitFault = F.UnitFault
fault_of numbers.Memory = F.Memory

-- a number that was computed, which keeps no sides
abbrev pub of_number : Result Number NumberFault → Answer
of_number (Ok number) = Ok (P.Number (without_sides number.units number.value))
of_number (Err fault) = Err (fault_of fault)

-- the value, and what is made of it where there is one
abbrev pub with : Answer → (Plain → Answer) → Answer
with (Ok value) next = next value
with (Err fault) next = Err fault
