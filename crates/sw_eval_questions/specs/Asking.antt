-- Faults that end an evaluation, and its questions.
use Rattle.std.specs.Prelude.{ℕ, Result}
use Rattle.sw_text.specs.declared.fault.Fault.{Fault}
use Rattle.sw_text.specs.declared.fault.FaultCode.{FaultCode}
use Rattle.sw_text.specs.declared.place.Span.{Span}
use Rattle.sw_world.specs.declared.question.Question.{Question}
use Rattle.sw_world.specs.declared.answer.Answer.{Answer}
use Rattle.sw_eval_questions.specs.Talk.{Talk, NumberedQuestion, Gives, Asking}
use Rattle.sw_eval_questions.specs.Did.{Did, nothing, stand}
use Rattle.sw_eval_questions.specs.declared.asked.Asked.{Asked}
use Rattle.sw_eval_questions.specs.declared.stop.Stop.{Stop}

abbrev pub fault : FaultCode → Span → Fault
fault code span = record { code = code; span = span }

-- the question's number and its answer
unfoldable pub asking : {S : Type 0} → NumberedQuestion → Span → S → Talk ((ℕ × Answer) × S)
asking q span s = Asking q span (λ n a. Gives ((n, a), s))

-- the question was asked, and r came of it, whatever was made so far
abbrev pub Heard : {W : Type 0} → (W → Question → Answer → W → Type 0) → NumberedQuestion → Span → Asked → W
    → Result (ℕ × Answer) Stop → Asked → W → Type 0
Heard gives q at a w r b x = Did gives (asking q at nothing) (stand a) w r nothing (stand b) x
