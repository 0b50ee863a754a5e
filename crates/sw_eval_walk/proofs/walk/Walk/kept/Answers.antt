use Rattle.sw_eval_walk.specs.Variables.{kept}
use Rattle.sw_eval_questions.proofs.Steps.{did_value}
use Rattle.sw_eval_walk.proofs.walk.Walk.kept.Goals as goal

pub returns-then-flags : goal.returns-then-flags
unfolding kept
returns-then-flags g c =
    rw c.if-flags.true c.has_value.ensures

pub returns-else-flags : goal.returns-else-flags
unfolding kept
returns-else-flags g c =
    rw c.if-flags.false (did_value _ _ _ _)
