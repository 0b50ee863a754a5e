use Rattle.sw_eval_statements.specs.Styles.{custom}
use Rattle.sw_eval_questions.proofs.Steps.{did_value, did_err, did_then, did_plain}
use Rattle.sw_eval_statements.proofs.styles.custom.Goals as goal

pub returns-then-not-takes_lines : goal.returns-then-not-takes_lines
unfolding custom
returns-then-not-takes_lines g c = rw (← c.takes_lines.ensures, c.if-not-takes_lines.true) (did_plain _ c.args.walk.now.state _ _ _ (c.fails.ensures c.args.walk.now.state))

pub returns-in_err-name : goal.returns-in_err-name
unfolding custom
returns-in_err-name g c =
    rw (← c.takes_lines.ensures, c.if-not-takes_lines.false) (did_err _ c.in_err-name.ensures c.from_residual.ensures)

pub returns-in_err-text : goal.returns-in_err-text
unfolding custom
returns-in_err-text g c =
    rw (← c.takes_lines.ensures, c.if-not-takes_lines.false) (did_then _ c.in_ok-name.ensures (did_err _ c.in_err-text.ensures c.from_residual-in_err-text.ensures))

pub returns-in_err-declaring : goal.returns-in_err-declaring
unfolding custom
returns-in_err-declaring g c =
    rw (← c.takes_lines.ensures, c.if-not-takes_lines.false) (did_then _ c.in_ok-name.ensures (did_then _ c.in_ok-text.ensures (did_err _ (did_plain _ _ _ _ _ c.in_err-declaring.ensures) c.from_residual-in_err-declaring.ensures)))

pub returns : goal.returns
unfolding custom
returns g c =
    rw (← c.takes_lines.ensures, c.if-not-takes_lines.false) (did_then _ c.in_ok-name.ensures (did_then _ c.in_ok-text.ensures (did_then _ (did_plain _ _ _ _ _ c.in_ok-declaring.ensures) (did_value _ _ _ _))))
