use Rattle.sw_eval_walk.specs.Existence.{member_exists}
use Rattle.sw_eval_questions.proofs.Steps.{did_value}
use Rattle.sw_eval_walk.proofs.walk.Walk.member_exists.Goals as goal

pub returns-then-is_private : goal.returns-then-is_private
unfolding member_exists
returns-then-is_private g c =
    rw (← c.is_private.ensures, c.if-is_private.true) (did_value _ c.args.self.now.state _ _)

pub returns : goal.returns
unfolding member_exists
returns g c =
    rw (← c.is_private.ensures, c.if-is_private.false) c.exists.ensures
