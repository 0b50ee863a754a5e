-- What is answered where a value may be refused: the value, or a fault and its place.
use Rattle.std.specs.Prelude.{◌≡◌, Result, Ok, Err, if◌then◌else◌}
use Rattle.sw_text.specs.declared.fault.Fault.{Fault}
use Rattle.sw_text.specs.declared.fault.FaultCode.{FaultCode}
use Rattle.sw_text.specs.declared.fault.FaultCode.TheVariants as C
use Rattle.sw_text.specs.declared.place.Span.{Span}
use Rattle.sw_fixed.specs.declared.fault.NumberFault.{NumberFault}
use Rattle.sw_fixed.specs.declared.fault.NumberFault.TheVariants as numbers
use Rattle.sw_values.specs.declared.plain.Plain.{Plain}
use Rattle.sw_values.specs.Weight.{is_within}
use Rattle.sw_ops.specs.declared.fault.OpFault.{OpFault}
use Rattle.sw_ops.specs.declared.fault.OpFault.TheVariants as F
use Rattle.sw_eval_literals.specs.declared.refused.Refused.{Refused}
use Rattle.sw_eval_literals.specs.declared.refused.Refused.TheVariants as R

abbrev pub Answer : Type 0 → Type 0
Answer A = Result A Fault

-- the answer is this one, or no memory was found
abbrev pub Returns : {A : Type 0} → Result A Refused → Answer A → Type 0
Returns (Ok value) right = right ≡ Ok value
Returns (Err (R.Fault fault)) right = right ≡ Err fault
Returns (Err R.Memory) right = Unit {0}

-- what a value was changed to, unless that was refused
abbrev pub changed : {A E : Type 0} → A → Result (Unit {0}) E → Result A E
changed value (Ok _) = Ok value
changed value (Err why) = Err why

abbrev pub refused : {A : Type 0} → FaultCode → Span → Answer A
refused code span = Err (record { code = code; span = span })

-- what is made of a value, where there is one
abbrev pub with : {A B : Type 0} → Answer A → (A → Answer B) → Answer B
with (Ok value) next = next value
with (Err fault) next = Err fault

-- a value, which stands here, unless it is too heavy or too deep
abbrev pub within : Plain → Span → Answer Plain
within value span = if is_within value then Ok value else refused C.TooLarge span

-- the faults of operators; none of their meanings is want of memory
abbrev pub code_of : OpFault → FaultCode
code_of F.TypeFault = C.TypeFault
code_of F.UnitFault = C.UnitFault
code_of F.DivideByZero = C.DivideByZero
code_of F.NumberRange = C.NumberRange
code_of F.NotCss = C.NotCss
code_of F.TooLarge = C.TooLarge
code_of F.Memory = C.TooLarge

-- what an operator makes, here
abbrev pub of_op : Span → Result Plain OpFault → Answer Plain
of_op span (Ok value) = Ok value
of_op span (Err fault) = refused (code_of fault) span

-- the faults of numbers; none of their meanings is want of memory
abbrev pub number_code : NumberFault → FaultCode
number_code numbers.NumberRange = C.NumberRange
number_code numbers.DivideByZero = C.DivideByZero
number_code numbers.UnitFault = C.UnitFault
number_code numbers.Memory = C.TooLarge
