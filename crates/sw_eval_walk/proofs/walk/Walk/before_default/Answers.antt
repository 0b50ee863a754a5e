use Rattle.sw_eval_walk.specs.Variables.{before_default}
use Rattle.sw_eval_questions.proofs.Steps.{no_memory, did_value}
use Rattle.sw_eval_walk.proofs.walk.Walk.before_default.Goals as goal

pub returns-in_err-or_null : goal.returns-in_err-or_null
returns-in_err-or_null g c =
    no_memory _ c.args.self.now.state _ _ _ c.from_residual.ensures

pub returns-then-is_mine : goal.returns-then-is_mine
unfolding before_default
returns-then-is_mine g c =
    rw (← c.is_mine.ensures, c.if-is_mine.true, c.in_ok-or_null.ensures, c.look_top-own.ensures) (did_value _ _ _ _)

pub returns : goal.returns
unfolding before_default
returns g c =
    rw (← c.is_mine.ensures, c.if-is_mine.false) c.before_by.ensures
