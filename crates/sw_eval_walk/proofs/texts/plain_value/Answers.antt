use Rattle.sw_eval_walk.specs.Texts.{plain_value}
use Rattle.sw_eval_questions.proofs.Steps.{did_err, did_then}
use Rattle.sw_eval_questions.proofs.Refusals.{did_stopped}
use Rattle.sw_eval_walk.proofs.texts.plain_value.Goals as goal

pub returns-in_err-value : goal.returns-in_err-value
unfolding plain_value
returns-in_err-value g c =
    did_err _ c.in_err-value.ensures c.from_residual.ensures

pub returns : goal.returns
unfolding plain_value
returns g c =
    did_then _ c.in_ok-value.ensures (did_stopped _ _ _ c.value_of.new.walk.state _ _ c.into_plain_at.ensures c.stopped.ensures)
