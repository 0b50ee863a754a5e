use Rattle.sw_eval_walk.specs.Variables.{sought}
use Rattle.sw_eval_questions.proofs.Steps.{did_err, did_then}
use Rattle.sw_eval_walk.proofs.walk.Walk.sought.Goals as goal

pub returns-in_err-a : goal.returns-in_err-a
unfolding sought
returns-in_err-a g c = did_err _ c.in_err-a.ensures.did c.from_residual.ensures

pub returns : goal.returns
unfolding sought
returns g c = did_then _ c.in_ok-a.ensures.did c.sought_by.ensures
