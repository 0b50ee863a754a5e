use Rattle.sw_eval_walk.specs.Variables.{stored}
use Rattle.sw_eval_questions.proofs.Steps.{no_memory, did_plain}
use Rattle.sw_eval_walk.proofs.walk.Walk.stored.Goals as goal

pub returns-then-global : goal.returns-then-global
unfolding stored
returns-then-global g c =
    rw c.if-global.true c.set_global.ensures

pub returns-in_err-name : goal.returns-in_err-name
returns-in_err-name g c =
    no_memory _ c.args.self.now.state _ _ _ c.from_residual.ensures

pub returns : goal.returns
unfolding stored
returns g c =
    rw c.if-global.false (did_plain _ _ _ _ _ (rw c.in_ok-name.ensures at c.set_by.ensures))
