use Rattle.std.proofs.Common.{◌∙◌, arith}
use Rattle.sw_eval_literals.proofs.Parts.{sign_taken, stays_refused}
use Rattle.sw_eval_literals.proofs.signs.signed.Goals as goal

pub signs-preserved : goal.signs-preserved
signs-preserved c =
    let step = sign_taken c.args.signs.now c.signs.left c.signs.value c.args.span.now c.signs-test.true c.signs.invariant.few in
    record {
      left = c.signs.invariant.left ∙ (rw c.in-Ok.ensures at step);
      few = omega (arith, c.signs.invariant.few);
    }

pub returns-in-Err : goal.returns-in-Err
returns-in-Err c =
    rw (c.signs.invariant.left, sign_taken c.args.signs.now c.signs.left c.signs.value c.args.span.now c.signs-test.true c.signs.invariant.few)
    (stays_refused c.in-Err.refused _ _ c.in-Err.ensures)
