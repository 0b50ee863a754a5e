use Rattle.std.proofs.Common.{sym, ◌∙◌}
use Rattle.sw_eval_walk.specs.Existence.{function_exists}
use Rattle.sw_eval_questions.proofs.Steps.{did_value, did_err, did_then}
use Rattle.sw_eval_questions.proofs.Choices.{did_yes, did_no}
use Rattle.sw_eval_walk.proofs.walk.Walk.function_exists.Goals as goal

pub returns-then-sees_function : goal.returns-then-sees_function
unfolding function_exists
returns-then-sees_function g c =
    did_yes _ _ _ (sym c.sees_function.ensures ∙ c.if-sees_function.true) (did_value _ c.args.self.now.state _ _)

pub returns-in_err-exists : goal.returns-in_err-exists
unfolding function_exists
returns-in_err-exists g c =
    did_no _ _ _ (sym c.sees_function.ensures ∙ c.if-sees_function.false) (did_err _ c.in_err-exists.ensures c.from_residual.ensures)

pub returns : goal.returns
unfolding function_exists
returns g c =
    did_no _ _ _ (sym c.sees_function.ensures ∙ c.if-sees_function.false) (did_then _ c.in_ok-exists.ensures (rw c.or_built_in.ensures (did_value _ _ _ _)))
