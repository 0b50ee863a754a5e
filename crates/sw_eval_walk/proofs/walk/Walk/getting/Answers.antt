use Rattle.sw_eval_walk.specs.Variables.{getting}
use Rattle.sw_eval_questions.proofs.Steps.{did_err, did_then, did_plain}
use Rattle.sw_eval_walk.proofs.walk.Walk.getting.Goals as goal

pub returns-in_err-b : goal.returns-in_err-b
unfolding getting
returns-in_err-b g c = did_err _ c.in_err-b.ensures c.from_residual.ensures

pub returns : goal.returns
unfolding getting
returns g c = did_then _ c.in_ok-b.ensures (did_plain _ _ _ _ _ (c.got.ensures c.ask_get.new.self.state))
