use Rattle.sw_eval_questions.proofs.Steps.{did_value, did_err, did_then, did_plain}
use Rattle.sw_eval_statements.proofs.at_rules.block_by.Goals as goal

pub returns-in_err-enter_at_rule-in-Some : goal.returns-in_err-enter_at_rule-in-Some
returns-in_err-enter_at_rule-in-Some g c =
    rw c.in-Some.is (did_err _ (did_plain _ _ _ _ _ c.in_err-enter_at_rule-in-Some.ensures) c.from_residual.ensures)

pub returns-in_ok-enter_at_rule-in-Some : goal.returns-in_ok-enter_at_rule-in-Some
returns-in_ok-enter_at_rule-in-Some g c =
    rw c.in-Some.is (did_then _ (did_plain _ _ _ _ _ c.in_ok-enter_at_rule-in-Some.ensures) (rw c.as_slice.ensures at c.nested_block.ensures))

pub returns-in_err-line_at_rule-in-None : goal.returns-in_err-line_at_rule-in-None
returns-in_err-line_at_rule-in-None g c =
    rw c.in-None.is (did_err _ (did_plain _ _ _ _ _ c.in_err-line_at_rule-in-None.ensures) c.from_residual-in_err-line_at_rule-in-None.ensures)

pub returns-in_ok-line_at_rule-in-None : goal.returns-in_ok-line_at_rule-in-None
returns-in_ok-line_at_rule-in-None g c =
    rw c.in-None.is (did_then _ (did_plain _ _ _ _ _ c.in_ok-line_at_rule-in-None.ensures) (did_value _ _ _ _))
