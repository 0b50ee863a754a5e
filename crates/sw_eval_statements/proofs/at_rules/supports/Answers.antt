use Rattle.sw_eval_statements.specs.AtRules.{supports}
use Rattle.sw_eval_questions.proofs.Steps.{did_err, did_then, did_plain, no_memory}
use Rattle.sw_eval_statements.proofs.at_rules.supports.Goals as goal

pub returns-then-is_some : goal.returns-then-is_some
unfolding supports
returns-then-is_some g c =
    rw (← c.is_some.ensures, c.if-is_some.true) (did_plain _ c.args.walk.now.state _ _ _ (c.fails.ensures c.args.walk.now.state))

pub returns-in_err-text : goal.returns-in_err-text
unfolding supports
returns-in_err-text g c =
    rw (← c.is_some.ensures, c.if-is_some.false) (did_err _ c.in_err-text.ensures c.from_residual.ensures)

pub returns-in_err-name : goal.returns-in_err-name
unfolding supports
returns-in_err-name g c =
    rw (← c.is_some.ensures, c.if-is_some.false) (did_then _ c.in_ok-text.ensures (no_memory _ _ _ _ _ c.from_residual-in_err-name.ensures))

pub returns-in_err-enter_at_rule : goal.returns-in_err-enter_at_rule
unfolding supports
returns-in_err-enter_at_rule g c =
    rw (← c.is_some.ensures, c.if-is_some.false) (did_then _ c.in_ok-text.ensures (did_err _ (did_plain _ _ _ _ _ (rw c.in_ok-name.ensures at c.in_err-enter_at_rule.ensures)) c.from_residual-in_err-enter_at_rule.ensures))

pub returns : goal.returns
unfolding supports
returns g c =
    rw (← c.is_some.ensures, c.if-is_some.false) (did_then _ c.in_ok-text.ensures (did_then _ (did_plain _ _ _ _ _ (rw c.in_ok-name.ensures at c.in_ok-enter_at_rule.ensures)) (rw c.as_slice.ensures at c.nested_block.ensures)))
