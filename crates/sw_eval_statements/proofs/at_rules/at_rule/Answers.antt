use Rattle.sw_eval_statements.specs.AtRules.{at_rule}
use Rattle.sw_eval_questions.proofs.Steps.{did_err, did_then, did_plain, no_memory}
use Rattle.sw_eval_statements.proofs.at_rules.at_rule.Goals as goal

pub returns-then-is_some : goal.returns-then-is_some
unfolding at_rule
returns-then-is_some g c =
    rw (← c.is_some.ensures, c.if-is_some.true) (did_plain _ c.args.walk.now.state _ _ _ (c.fails.ensures c.args.walk.now.state))

pub returns-in_err-name : goal.returns-in_err-name
unfolding at_rule
returns-in_err-name g c =
    rw (← c.is_some.ensures, c.if-is_some.false) (did_err _ c.in_err-name.ensures c.from_residual.ensures)

pub returns-in_err-prelude : goal.returns-in_err-prelude
unfolding at_rule
returns-in_err-prelude g c =
    rw (← c.is_some.ensures, c.if-is_some.false) (did_then _ c.in_ok-name.ensures (did_err _ c.in_err-prelude.ensures c.from_residual-in_err-prelude.ensures))

pub returns-in_err-bare : goal.returns-in_err-bare
unfolding at_rule
returns-in_err-bare g c =
    rw (← c.is_some.ensures, c.if-is_some.false) (did_then _ c.in_ok-name.ensures (did_then _ c.in_ok-prelude.ensures (no_memory _ _ _ _ _ c.from_residual-in_err-bare.ensures)))

pub returns : goal.returns
unfolding at_rule
returns g c =
    rw (← c.is_some.ensures, c.if-is_some.false) (did_then _ c.in_ok-name.ensures (did_then _ c.in_ok-prelude.ensures (rw c.in_ok-bare.ensures at c.block_by.ensures)))
