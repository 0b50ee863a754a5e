use Rattle.sw_eval_questions.proofs.Steps.{did_value}
use Rattle.sw_eval_walk.proofs.walk.Walk.sought_by.Goals as goal

pub returns-then-is_absent : goal.returns-then-is_absent
returns-then-is_absent g c = rw (← c.is_absent.ensures, c.if-is_absent.true, c.null.ensures) (did_value _ c.args.self.now.state _ _)

pub returns : goal.returns
returns g c = rw (← c.is_absent.ensures, c.if-is_absent.false) c.named_by.ensures
