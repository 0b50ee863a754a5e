use Rattle.sw_eval_walk.specs.Variables.{put_global}
use Rattle.sw_eval_questions.proofs.Steps.{did_err, did_then}
use Rattle.sw_eval_walk.proofs.walk.Walk.put_global.Goals as goal

pub returns-in_err-number : goal.returns-in_err-number
unfolding put_global
returns-in_err-number g c =
    did_err _ c.in_err-number.ensures c.from_residual.ensures

pub returns : goal.returns
unfolding put_global
returns g c =
    did_then _ c.in_ok-number.ensures c.putting.ensures
