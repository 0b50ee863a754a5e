use Rattle.sw_eval_statements.specs.AtRules.{media}
use Rattle.sw_eval_questions.proofs.Steps.{did_value, did_err, did_then, did_plain}
use Rattle.sw_eval_questions.proofs.Choices.{did_yes, did_no}
use Rattle.sw_eval_statements.proofs.at_rules.media.Goals as goal

pub returns-then-is_some : goal.returns-then-is_some
unfolding media
returns-then-is_some g c =
    rw (← c.is_some.ensures, c.if-is_some.true) (did_plain _ c.args.walk.now.state _ _ _ (c.fails.ensures c.args.walk.now.state))

pub returns-in_err-text : goal.returns-in_err-text
unfolding media
returns-in_err-text g c =
    rw (← c.is_some.ensures, c.if-is_some.false) (did_err _ c.in_err-text.ensures c.from_residual.ensures)

pub returns-in_err-goes_on : goal.returns-in_err-goes_on
unfolding media
returns-in_err-goes_on g c =
    rw (← c.is_some.ensures, c.if-is_some.false) (did_then _ c.in_ok-text.ensures (did_err _ (did_plain _ _ _ _ _ c.in_err-goes_on.ensures) c.from_residual-in_err-goes_on.ensures))

pub returns-then-not-goes_on : goal.returns-then-not-goes_on
unfolding media
returns-then-not-goes_on g c =
    rw (← c.is_some.ensures, c.if-is_some.false) (did_then _ c.in_ok-text.ensures (did_then _ (did_plain _ _ _ _ _ c.in_ok-goes_on.ensures) (did_no _ _ _ c.if-not-goes_on.true (did_value _ _ _ _))))

pub returns : goal.returns
unfolding media
returns g c =
    rw (← c.is_some.ensures, c.if-is_some.false) (did_then _ c.in_ok-text.ensures (did_then _ (did_plain _ _ _ _ _ c.in_ok-goes_on.ensures) (did_yes _ _ _ c.if-not-goes_on.false (rw c.as_slice.ensures at c.nested_block.ensures))))
