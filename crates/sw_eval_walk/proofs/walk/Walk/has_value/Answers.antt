use Rattle.sw_eval_walk.specs.Variables.{has_value}
use Rattle.sw_eval_questions.proofs.Steps.{did_value, did_err, did_then}
use Rattle.sw_eval_walk.proofs.walk.Walk.has_value.Goals as goal

pub returns-in_err-old : goal.returns-in_err-old
unfolding has_value
returns-in_err-old g c =
    did_err _ c.in_err-old.ensures c.from_residual.ensures

pub returns : goal.returns
unfolding has_value
returns g c =
    rw c.is_null.ensures (did_then _ c.in_ok-old.ensures (did_value _ _ _ _))
