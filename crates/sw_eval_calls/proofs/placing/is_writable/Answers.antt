use Rattle.std.proofs.Common.{refl}
use Rattle.sw_eval_calls.specs.Placing.{is_writable}
use Rattle.sw_eval_calls.proofs.placing.is_writable.Goals as goal

pub returns-then-sides : goal.returns-then-sides
unfolding is_writable
returns-then-sides c =
    rw c.if-sides.true (rw (c.in_ok-pass_on.ensures, c.new-passed.ensures, c.in_ok-share.ensures) at c.passes_css.ensures)

pub returns-in-Ok : goal.returns-in-Ok
unfolding is_writable
returns-in-Ok c =
    rw (c.if-sides.false, rw (c.in_ok-pass_on.ensures, c.new-passed.ensures, c.in_ok-share.ensures) at c.in-Ok.ensures) c.passes_css-in-Ok.ensures

pub returns-in-Err-Fault : goal.returns-in-Err-Fault
unfolding is_writable
returns-in-Err-Fault c =
    let e = rw c.in-Err-Fault.field-0-is at c.in-Err-Fault.ensures in
    rw (c.if-sides.false, rw (c.in_ok-pass_on.ensures, c.new-passed.ensures, c.in_ok-share.ensures) at e) refl
