use Rattle.sw_eval_walk.specs.Callees.{function_called}
use Rattle.sw_eval_questions.proofs.Steps.{no_memory, did_value, did_err, did_then, did_plain}
use Rattle.sw_eval_walk.proofs.walk.Walk.function_called.Goals as goal

pub returns-in_err-name : goal.returns-in_err-name
returns-in_err-name g c =
    no_memory _ c.args.self.now.state _ _ _ c.from_residual.ensures

pub returns-in_err-callable : goal.returns-in_err-callable
returns-in_err-callable g c =
    no_memory _ c.args.self.now.state _ _ _ c.from_residual-in_err-callable.ensures

pub returns-in-Some : goal.returns-in-Some
unfolding function_called
returns-in-Some g c =
    rw (← rw c.as_str.ensures at c.in_ok-name.ensures, ← c.in-Some.ensures, c.in_ok-callable.ensures) (did_value _ c.args.self.now.state _ _)

pub returns-in_err-a : goal.returns-in_err-a
unfolding function_called
returns-in_err-a g c =
    rw (← rw c.as_str.ensures at c.in_ok-name.ensures, ← c.in_default.ensures) (did_err _ c.in_err-a.ensures.did c.from_residual-in_err-a.ensures)

pub returns : goal.returns
unfolding function_called
returns g c =
    rw (← rw c.as_str.ensures at c.in_ok-name.ensures, ← c.in_default.ensures) (did_then _ c.in_ok-a.ensures.did (did_plain _ c.find.new.self.state _ _ _ (c.function_by.ensures c.find.new.self.state)))
