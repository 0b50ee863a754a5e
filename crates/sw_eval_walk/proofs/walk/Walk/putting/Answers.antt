use Rattle.sw_eval_walk.specs.Variables.{putting}
use Rattle.sw_eval_questions.proofs.Steps.{did_value, did_err, did_then}
use Rattle.sw_eval_walk.proofs.walk.Walk.putting.Goals as goal

pub returns-in_err-_done : goal.returns-in_err-_done
unfolding putting
returns-in_err-_done g c = did_err _ c.in_err-_done.ensures c.from_residual.ensures

pub returns : goal.returns
unfolding putting
returns g c = did_then _ c.in_ok-_done.ensures (did_value _ _ _ _)
