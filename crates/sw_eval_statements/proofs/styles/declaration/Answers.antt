use Rattle.sw_eval_statements.specs.Styles.{declaration}
use Rattle.sw_eval_questions.proofs.Steps.{did_value, did_err, did_then, did_plain}
use Rattle.sw_eval_statements.proofs.styles.declaration.Goals as goal

pub returns-then-not-takes_lines : goal.returns-then-not-takes_lines
unfolding declaration
returns-then-not-takes_lines g c = rw (← c.takes_lines.ensures, c.if-not-takes_lines.true) (did_plain _ c.args.walk.now.state _ _ _ (c.fails.ensures c.args.walk.now.state))

pub returns-in_err-name : goal.returns-in_err-name
unfolding declaration
returns-in_err-name g c =
    rw (← c.takes_lines.ensures, c.if-not-takes_lines.false) (did_err _ c.in_err-name.ensures c.from_residual.ensures)

pub returns-in_err-valued : goal.returns-in_err-valued
unfolding declaration
returns-in_err-valued g c =
    rw (← c.takes_lines.ensures, c.if-not-takes_lines.false) (did_then _ c.in_ok-name.ensures (did_err _ c.in_err-valued.ensures c.from_residual-in_err-valued.ensures))

pub returns : goal.returns
unfolding declaration
returns g c =
    rw (← c.takes_lines.ensures, c.if-not-takes_lines.false) (did_then _ c.in_ok-name.ensures (did_then _ c.in_ok-valued.ensures (did_value _ _ _ _)))
