use Rattle.sw_eval_state.specs.Rules.{rule_opening}
use Rattle.sw_eval_questions.proofs.Steps.{plain_err, plain_then}
use Rattle.sw_eval_state.proofs.Answering.{out_of_memory}
use Rattle.sw_eval_state.proofs.state.State.rule_written.Goals as goal

pub returns-in_err-opened : goal.returns-in_err-opened
unfolding rule_opening
returns-in_err-opened c = plain_err _ _ _ _ _ _ (rw c.requires at c.in_err-opened.ensures) c.from_residual.ensures

pub returns-in_err-parents : goal.returns-in_err-parents
returns-in_err-parents c = out_of_memory _ _ _ c.from_residual-in_err-parents.ensures

pub returns-in_err-around : goal.returns-in_err-around
returns-in_err-around c = out_of_memory _ _ _ c.from_residual-in_err-around.ensures

pub returns : goal.returns
unfolding rule_opening
returns c =
    plain_then _ _ _ _ _ _ (rw c.requires at c.in_ok-opened.ensures) (rw (c.in_rule.ensures, c.in_ok-parents.ensures, c.in_ok-around.ensures) at c.nest.ensures)
