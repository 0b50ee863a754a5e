use Rattle.sw_eval_questions.proofs.Steps.{did_value, no_memory}
use Rattle.sw_eval_top_level.specs.Loading.{entry_value}
use Rattle.sw_eval_top_level.proofs.loads.entry_value.Goals as goal

pub returns-in_err-share-in-Some : goal.returns-in_err-share-in-Some
returns-in_err-share-in-Some g c = no_memory _ c.args.walk.now.state _ _ _ c.from_residual.ensures

pub returns-in_ok-share-in-Some : goal.returns-in_ok-share-in-Some
unfolding entry_value
returns-in_ok-share-in-Some g c = rw (← c.in-Some.ensures, c.in_ok-share-in-Some.ensures) (did_value _ c.args.walk.now.state _ _)

pub returns-in-None : goal.returns-in-None
unfolding entry_value
returns-in-None g c = rw (← c.in-None.ensures) (rw c.outside.ensures at c.plain_value.ensures)
