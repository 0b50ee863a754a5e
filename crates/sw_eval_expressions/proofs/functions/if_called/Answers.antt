use Rattle.sw_eval_expressions.specs.Functions.{if_called}
use Rattle.sw_eval_questions.proofs.Steps.{did_plain}
use Rattle.sw_eval_expressions.proofs.functions.if_called.Goals as goal

pub returns-in-Some : goal.returns-in-Some
unfolding if_called
returns-in-Some g c =
    rw (← c.in-Some.ensures) (rw c.deeper.ensures at c.chosen.ensures)

pub returns-in-None : goal.returns-in-None
unfolding if_called
returns-in-None g c =
    rw (← c.in-None.ensures) (did_plain _ c.args.walk.now.state _ _ _ (c.fails.ensures c.args.walk.now.state))
