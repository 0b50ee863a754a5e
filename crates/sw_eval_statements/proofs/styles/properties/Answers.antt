use Rattle.sw_eval_statements.specs.Styles.{properties}
use Rattle.sw_eval_questions.proofs.Steps.{no_memory_by, gives_state, did_value, did_err, did_then, did_plain}
use Rattle.sw_eval_statements.proofs.styles.properties.Goals as goal

pub returns-then-not-takes_lines : goal.returns-then-not-takes_lines
unfolding properties
returns-then-not-takes_lines g c =
    rw (← c.takes_lines.ensures, c.if-not-takes_lines.true) (did_plain _ c.args.walk.now.state _ _ _ (c.fails.ensures c.args.walk.now.state))

pub returns-in_err-name : goal.returns-in_err-name
unfolding properties
returns-in_err-name g c =
    rw (← c.takes_lines.ensures, c.if-not-takes_lines.false) (did_err _ c.in_err-name.ensures c.from_residual.ensures)

pub returns-in_err-maybe_valued : goal.returns-in_err-maybe_valued
unfolding properties
returns-in_err-maybe_valued g c =
    rw (← c.takes_lines.ensures, c.if-not-takes_lines.false) (did_then _ c.in_ok-name.ensures (did_err _ c.in_err-maybe_valued.ensures c.from_residual-in_err-maybe_valued.ensures))

pub returns-in_err-enter_properties : goal.returns-in_err-enter_properties
unfolding properties
returns-in_err-enter_properties g c =
    rw (← c.takes_lines.ensures, c.if-not-takes_lines.false) (did_then _ c.in_ok-name.ensures (did_then _ c.in_ok-maybe_valued.ensures (no_memory_by _ _ _ _ _ _ _ _ c.in_err-enter_properties.ensures c.from_residual-in_err-enter_properties.ensures)))

pub returns-in_err-value : goal.returns-in_err-value
unfolding properties
returns-in_err-value g c =
    rw (← c.takes_lines.ensures, c.if-not-takes_lines.false) (did_then _ c.in_ok-name.ensures (did_then _ c.in_ok-maybe_valued.ensures (rw (gives_state c.in_ok-enter_properties.ensures) (did_err _ (rw c.as_slice.ensures at c.in_err-value.ensures) c.from_residual-in_err-value.ensures))))

pub returns : goal.returns
unfolding properties
returns g c =
    rw (← c.takes_lines.ensures, c.if-not-takes_lines.false) (did_then _ c.in_ok-name.ensures (did_then _ c.in_ok-maybe_valued.ensures (rw (gives_state c.in_ok-enter_properties.ensures) (did_then _ (rw c.as_slice.ensures at c.in_ok-value.ensures) (rw c.unnest.ensures (did_value _ _ _ _))))))
