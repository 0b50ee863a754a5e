use Rattle.sw_eval_statements.specs.Styles.{rule_opened}
use Rattle.sw_eval_state.proofs.Answering.{out_of_memory}
use Rattle.sw_eval_statements.proofs.styles.open_rule.Goals as goal

pub returns-in_err-text : goal.returns-in_err-text
returns-in_err-text c = out_of_memory _ _ _ c.from_residual.ensures

pub returns-then-is_css : goal.returns-then-is_css
unfolding rule_opened
returns-then-is_css c = rw (← c.is_css.ensures, c.if-is_css.true) (rw c.in_ok-text.ensures at c.enter_plain.ensures)

pub returns : goal.returns
unfolding rule_opened
returns c = rw (← c.is_css.ensures, c.if-is_css.false) c.enter_rule.ensures
