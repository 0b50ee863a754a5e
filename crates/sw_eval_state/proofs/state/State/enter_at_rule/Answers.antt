use Rattle.sw_eval_state.specs.AtRules.{at_entered}
use Rattle.sw_eval_questions.proofs.Steps.{plain_err, plain_then}
use Rattle.sw_eval_state.proofs.Answering.{out_of_memory}
use Rattle.sw_eval_state.proofs.state.State.enter_at_rule.Goals as goal

pub returns-in_err-put_at : goal.returns-in_err-put_at
unfolding at_entered
returns-in_err-put_at c = plain_err _ _ _ _ _ _ c.in_err-put_at.ensures c.from_residual.ensures

pub returns-in_err-around : goal.returns-in_err-around
returns-in_err-around c = out_of_memory _ _ _ c.from_residual-in_err-around.ensures

pub returns : goal.returns
unfolding at_entered
returns c =
    plain_then _ _ _ _ _ _ c.in_ok-put_at.ensures (rw (c.in_at_rule.ensures, c.is_keyframes-frames.ensures, c.as_str.ensures, c.in_ok-around.ensures) at c.nest.ensures)
