use Rattle.std.proofs.Common.{refl}
use Rattle.sw_eval_expressions.specs.Expressions.{value_one}
use Rattle.sw_eval_expressions.proofs.Opens.{out_Call}
use Rattle.sw_eval_expressions.proofs.GivenUp.{did_failed, did_lost, gave_err, gave, gave_same}
use Rattle.sw_eval_expressions.proofs.growing.value_given_up.Goals as goal

pub returns-in-Call : goal.returns-in-Call
unfolding value_one
returns-in-Call g c =
    gave_same _ _ (rw (c.in-Call.is, out_Call) refl) (rw (c.get.ensures, c.as_slice.ensures) at c.call_given_up.ensures)

pub returns-in_err-value-in_default : goal.returns-in_err-value-in_default
returns-in_err-value-in_default g c =
    gave_err _ (did_failed _ c.in_err-value-in_default.ensures c.from_residual.ensures) c.from_residual.ensures

pub returns-in_err-give_up-in_default : goal.returns-in_err-give_up-in_default
returns-in_err-give_up-in_default g c =
    gave_err _ (rw c.in_err-give_up-in_default.ensures.asked (did_lost _ _ c.in_ok-value-in_default.ensures c.in_err-give_up-in_default.ensures.state c.from_residual-in_err-give_up-in_default.ensures)) c.from_residual-in_err-give_up-in_default.ensures

pub returns-in_ok-give_up-in_default : goal.returns-in_ok-give_up-in_default
returns-in_ok-give_up-in_default g c =
    gave {b = c.value_one.new.walk} c.in_ok-value-in_default.ensures c.in_ok-give_up-in_default.ensures.asked c.in_ok-give_up-in_default.ensures.state
