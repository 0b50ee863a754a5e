use Rattle.sw_eval_statements.specs.AtRules.{root_with}
use Rattle.sw_eval_questions.proofs.Steps.{did_err, did_then, did_plain}
use Rattle.sw_eval_statements.proofs.at_rules.root_with.Goals as goal

pub returns-in_err-text : goal.returns-in_err-text
unfolding root_with
returns-in_err-text g c =
    did_err _ c.in_err-text.ensures c.from_residual.ensures

pub returns-in_err-enter_rule : goal.returns-in_err-enter_rule
unfolding root_with
returns-in_err-enter_rule g c =
    did_then _ c.in_ok-text.ensures (did_err _ (did_plain _ _ _ _ _ c.in_err-enter_rule.ensures) c.from_residual-in_err-enter_rule.ensures)

pub returns : goal.returns
unfolding root_with
returns g c =
    did_then _ c.in_ok-text.ensures (did_then _ (did_plain _ _ _ _ _ c.in_ok-enter_rule.ensures) c.nested_block.ensures)
