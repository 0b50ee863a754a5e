use Rattle.sw_eval_questions.proofs.Steps.{no_memory}
use Rattle.sw_eval_walk.proofs.walk.Walk.plain_called.Goals as goal

pub returns-in-None : goal.returns-in-None
returns-in-None g c =
    rw c.in-None.is c.function_called.ensures

pub returns-in_err-whole-in-Some : goal.returns-in_err-whole-in-Some
returns-in_err-whole-in-Some g c =
    no_memory _ c.args.self.now.state _ _ _ c.from_residual.ensures

pub returns-in_ok-whole-in-Some : goal.returns-in_ok-whole-in-Some
returns-in_ok-whole-in-Some g c =
    rw (c.in-Some.is, ← c.in_ok-whole-in-Some.ensures) c.member_called.ensures
