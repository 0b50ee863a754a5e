use Rattle.sw_eval_statements.specs.Styles.{rule}
use Rattle.sw_eval_questions.proofs.Steps.{did_err, did_then, did_plain}
use Rattle.sw_eval_statements.proofs.styles.rule.Goals as goal

pub returns-then-is_some : goal.returns-then-is_some
unfolding rule
returns-then-is_some g c =
    rw (← c.is_some.ensures, c.if-is_some.true) (did_plain _ c.args.walk.now.state _ _ _ (c.fails.ensures c.args.walk.now.state))

pub returns-in_err-text : goal.returns-in_err-text
unfolding rule
returns-in_err-text g c =
    rw (← c.is_some.ensures, c.if-is_some.false) (did_err _ c.in_err-text.ensures c.from_residual.ensures)

pub returns-in_err-open_rule : goal.returns-in_err-open_rule
unfolding rule
returns-in_err-open_rule g c =
    rw (← c.is_some.ensures, c.if-is_some.false) (did_then _ c.in_ok-text.ensures (did_err _ (did_plain _ _ _ _ _ c.in_err-open_rule.ensures) c.from_residual-in_err-open_rule.ensures))

pub returns : goal.returns
unfolding rule
returns g c =
    rw (← c.is_some.ensures, c.if-is_some.false) (did_then _ c.in_ok-text.ensures (did_then _ (did_plain _ _ _ _ _ c.in_ok-open_rule.ensures) (rw c.as_slice.ensures at c.nested_block.ensures)))
