use Rattle.sw_eval_walk.specs.Hosts.{hosted_value}
use Rattle.sw_eval_questions.proofs.Steps.{no_memory}
use Rattle.sw_eval_walk.proofs.walk.Walk.hosted_value.Goals as goal

pub returns-in_err-values : goal.returns-in_err-values
returns-in_err-values g c = no_memory _ c.args.self.now.state _ _ _ c.from_residual.ensures

pub returns : goal.returns
unfolding hosted_value
returns g c = rw c.in_ok-values.ensures at c.hosted_by.ensures
