use Rattle.sw_eval_statements.specs.Styles.{nested_block}
use Rattle.sw_eval_questions.proofs.Steps.{did_value, did_err, did_then}
use Rattle.sw_eval_statements.proofs.styles.nested_block.Goals as goal

pub returns-in_err-value : goal.returns-in_err-value
unfolding nested_block
returns-in_err-value g c = did_err _ c.in_err-value.ensures c.from_residual.ensures

pub returns : goal.returns
unfolding nested_block
returns g c = did_then _ c.in_ok-value.ensures (rw c.leave_rule.ensures (did_value _ _ _ _))
