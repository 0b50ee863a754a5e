use Rattle.sw_eval_walk.specs.Hosts.{hosted}
use Rattle.sw_eval_questions.proofs.Steps.{no_memory, did_value, did_err, did_then}
use Rattle.sw_eval_walk.proofs.Hosted.{not_hosted}
use Rattle.sw_eval_walk.proofs.walk.Walk.hosted.Goals as goal

pub returns-in_err-name : goal.returns-in_err-name
returns-in_err-name g c = no_memory _ c.args.self.now.state _ _ _ c.from_residual.ensures

pub returns-in_err-share : goal.returns-in_err-share
returns-in_err-share g c = no_memory _ c.args.self.now.state _ _ _ c.from_residual-in_err-share.ensures

pub returns-in_err-a : goal.returns-in_err-a
unfolding hosted
returns-in_err-a g c =
    rw (← rw c.as_str.ensures at c.in_ok-name.ensures) (did_err _ (rw c.in_ok-share.ensures at c.in_err-a.ensures) c.from_residual-in_err-a.ensures)

pub returns-in-Hosted : goal.returns-in-Hosted
unfolding hosted
returns-in-Hosted g c =
    rw (← rw c.as_str.ensures at c.in_ok-name.ensures) (did_then _ (rw c.in_ok-share.ensures at c.in_ok-a.ensures) (rw c.in-Hosted.is (did_value _ _ _ _)))

pub returns : goal.returns
unfolding hosted
returns g c =
    rw (← rw c.as_str.ensures at c.in_ok-name.ensures) (did_then _ (rw c.in_ok-share.ensures at c.in_ok-a.ensures) (rw (not_hosted _ c.in_default.not-Hosted) (did_value _ _ _ _)))
