use Rattle.sw_eval_walk.specs.Variables.{variable}
use Rattle.sw_eval_questions.proofs.Steps.{no_memory, did_value}
use Rattle.sw_eval_walk.proofs.walk.Walk.variable.Goals as goal

pub returns-in_err-share-in-Some : goal.returns-in_err-share-in-Some
returns-in_err-share-in-Some g c = no_memory _ c.args.self.now.state _ _ _ c.from_residual.ensures

pub returns-in_ok-share-in-Some : goal.returns-in_ok-share-in-Some
unfolding variable
returns-in_ok-share-in-Some g c = rw (c.in_ok-share-in-Some.ensures, ← c.in-Some.ensures) (did_value _ c.args.self.now.state _ _)

pub returns-in-None : goal.returns-in-None
unfolding variable
returns-in-None g c = rw (← c.in-None.ensures) c.outside.ensures
