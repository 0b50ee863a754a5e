use Rattle.sw_eval_statements.specs.Messages.{saying}
use Rattle.sw_eval_questions.proofs.Steps.{did_err, did_then}
use Rattle.sw_eval_questions.proofs.Refusals.{did_answer, did_refused}
use Rattle.sw_eval_statements.proofs.messages.saying.Goals as goal

pub returns-in_err-value : goal.returns-in_err-value
unfolding saying
returns-in_err-value g c =
    did_err _ (rw c.outside.ensures at c.in_err-value.ensures) c.from_residual.ensures

pub returns-in_err-text : goal.returns-in_err-text
unfolding saying
returns-in_err-text g c =
    did_then _ (rw c.outside.ensures at c.in_ok-value.ensures) (did_refused _ _ _ _ c.value_of.new.walk.state _ _ c.in_err-text.ensures c.from_residual-in_err-text.ensures)

pub returns : goal.returns
unfolding saying
returns g c =
    did_then _ (rw c.outside.ensures at c.in_ok-value.ensures) (did_then _ (did_answer _ _ c.value_of.new.walk.state _ _ c.in_ok-text.ensures) c.said.ensures)
