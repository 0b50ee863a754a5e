use Rattle.sw_eval_expressions.specs.Expressions.{string}
use Rattle.sw_eval_questions.proofs.Steps.{did_err, did_then}
use Rattle.sw_eval_questions.proofs.Refusals.{did_stopped}
use Rattle.sw_eval_expressions.proofs.value.string.Goals as goal

pub returns-in_err-text : goal.returns-in_err-text
unfolding string
returns-in_err-text g c =
    did_err _ c.in_err-text.ensures c.from_residual.ensures

pub returns : goal.returns
unfolding string
returns g c =
    did_then _ c.in_ok-text.ensures (did_stopped _ _ _ c.text.new.walk.state _ _ c.string_value.ensures c.stopped.ensures)
