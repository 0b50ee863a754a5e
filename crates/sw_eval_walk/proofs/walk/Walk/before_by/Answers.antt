use Rattle.sw_eval_walk.specs.Variables.{before_by}
use Rattle.sw_eval_questions.proofs.Steps.{no_memory, did_value}
use Rattle.sw_eval_walk.proofs.walk.Walk.before_by.Goals as goal

pub returns-then-global : goal.returns-then-global
unfolding before_by
returns-then-global g c =
    rw c.if-global.true c.sought.ensures

pub returns-in_err-share-in-Some : goal.returns-in_err-share-in-Some
returns-in_err-share-in-Some g c =
    no_memory _ c.args.self.now.state _ _ _ c.from_residual.ensures

pub returns-in_ok-share-in-Some : goal.returns-in_ok-share-in-Some
unfolding before_by
returns-in_ok-share-in-Some g c =
    rw (c.if-global.false, ← c.in-Some.ensures, c.in_ok-share-in-Some.ensures) (did_value _ _ _ _)

pub returns-in-None : goal.returns-in-None
unfolding before_by
returns-in-None g c =
    rw (c.if-global.false, ← c.in-None.ensures) c.sought-in-None.ensures
