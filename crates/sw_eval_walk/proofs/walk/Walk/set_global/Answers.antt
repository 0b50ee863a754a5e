use Rattle.sw_eval_walk.specs.Variables.{set_global}
use Rattle.sw_eval_questions.proofs.Steps.{did_plain}
use Rattle.sw_eval_walk.proofs.walk.Walk.set_global.Goals as goal

pub returns-then-is_home : goal.returns-then-is_home
unfolding set_global
returns-then-is_home g c =
    rw (← c.is_home.ensures, c.if-is_home.true) (did_plain _ _ _ _ _ c.set_own.ensures)

pub returns-else-is_home : goal.returns-else-is_home
unfolding set_global
returns-else-is_home g c =
    rw (← c.is_home.ensures, c.if-is_home.false) c.put_global.ensures
