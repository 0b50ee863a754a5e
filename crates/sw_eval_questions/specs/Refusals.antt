-- What is made without asking, and may be refused.
use Rattle.std.specs.Prelude.{Result, Ok, Err}
use Rattle.sw_eval_literals.specs.declared.refused.Refused.{Refused}
use Rattle.sw_eval_literals.specs.declared.refused.Refused.TheVariants as R
use Rattle.sw_eval_literals.specs.Answers.{Answer}
use Rattle.sw_eval_questions.specs.Talk.{Talk, Gives, Fails}
use Rattle.sw_eval_questions.specs.declared.stop.Stop.{Stop}
use Rattle.sw_eval_questions.specs.declared.stop.Stop.TheVariants as T

-- a value, or the fault that ends the evaluation
unfoldable pub answer : {A S : Type 0} → Answer A → S → Talk (A × S)
answer (Ok v) s = Gives (v, s)
answer (Err fault) s = Fails fault

abbrev pub stop_of : Refused → Stop
stop_of (R.Fault fault) = T.Fault fault
stop_of R.Memory = T.Memory

-- what is refused stops the evaluation
abbrev pub stopped : {A : Type 0} → Result A Refused → Result A Stop
stopped (Ok value) = Ok value
stopped (Err refused) = Err (stop_of refused)
