use Rattle.sw_eval_expressions.specs.Calls.{call_value}
use Rattle.sw_eval_questions.proofs.Steps.{did_err, did_then, no_memory_by}
use Rattle.sw_eval_questions.proofs.Refusals.{did_stopped}
use Rattle.sw_eval_expressions.proofs.GivenUp.{did_failed, did_lost, gave_err, gave, grown_call}
use Rattle.sw_eval_expressions.proofs.growing.call_given_up.Goals as goal

pub returns-in_err-called : goal.returns-in_err-called
unfolding call_value
returns-in_err-called g c =
    gave_err _ (did_err _ c.in_err-called.ensures c.from_residual.ensures) c.from_residual.ensures

pub returns-in_err-values-in-Some : goal.returns-in_err-values-in-Some
unfolding call_value
returns-in_err-values-in-Some g c =
    gave_err _ (did_then _ c.in_ok-called.ensures (rw (grown_call (g.B.Below.values c.args.level.below) (g.B.Below.bodies c.args.level.below) c.args.level.parens c.args.one.callee.now c.args.one.arguments.now c.args.one.span.now _ c.in-Some.function c.called.new.self.state c.in-Some.ensures.0 c.in-Some.ensures.1)
    (did_err _ (rw c.deeper.ensures at c.in_err-values-in-Some.ensures) c.from_residual-in_err-values-in-Some.ensures))) c.from_residual-in_err-values-in-Some.ensures

pub returns-in_err-give_up-in-Some : goal.returns-in_err-give_up-in-Some
unfolding call_value
returns-in_err-give_up-in-Some g c =
    gave_err _ (did_then _ c.in_ok-called.ensures (rw (grown_call (g.B.Below.values c.args.level.below) (g.B.Below.bodies c.args.level.below) c.args.level.parens c.args.one.callee.now c.args.one.arguments.now c.args.one.span.now _ c.in-Some.function c.called.new.self.state c.in-Some.ensures.0 c.in-Some.ensures.1, c.in_err-give_up-in-Some.ensures.asked)
    (did_then _ (rw c.deeper.ensures at c.in_ok-values-in-Some.ensures) (no_memory_by _ _ _ _ _ _ _ _ c.in_err-give_up-in-Some.ensures.state c.from_residual-in_err-give_up-in-Some.ensures)))) c.from_residual-in_err-give_up-in-Some.ensures

pub returns-in-Some : goal.returns-in-Some
unfolding call_value
returns-in-Some g c =
    gave {b = c.argument_values.new.walk} (did_then _ c.in_ok-called.ensures (rw (grown_call (g.B.Below.values c.args.level.below) (g.B.Below.bodies c.args.level.below) c.args.level.parens c.args.one.callee.now c.args.one.arguments.now c.args.one.span.now _ c.in-Some.function c.called.new.self.state c.in-Some.ensures.0 c.in-Some.ensures.1)
    (did_then _ (rw c.deeper.ensures at c.in_ok-values-in-Some.ensures) (did_stopped _ _ _ c.argument_values.new.walk.state _ _ c.built_in_grown.ensures c.stopped.ensures)))) c.in_ok-give_up-in-Some.ensures.asked c.in_ok-give_up-in-Some.ensures.state

pub returns-in_err-value-in-None : goal.returns-in_err-value-in-None
unfolding call_value
returns-in_err-value-in-None g c =
    gave_err _ (did_then _ c.in_ok-called.ensures (did_failed _ c.in_err-value-in-None.ensures c.from_residual-in_err-value-in-None.ensures)) c.from_residual-in_err-value-in-None.ensures

pub returns-in_err-give_up-in-None : goal.returns-in_err-give_up-in-None
unfolding call_value
returns-in_err-give_up-in-None g c =
    gave_err _ (did_then _ c.in_ok-called.ensures (rw c.in_err-give_up-in-None.ensures.asked (did_lost _ _ c.in_ok-value-in-None.ensures c.in_err-give_up-in-None.ensures.state c.from_residual-in_err-give_up-in-None.ensures))) c.from_residual-in_err-give_up-in-None.ensures

pub returns : goal.returns
unfolding call_value
returns g c =
    gave {b = c.call_by.new.walk} (did_then _ c.in_ok-called.ensures c.in_ok-value-in-None.ensures) c.in_ok-give_up-in-None.ensures.asked c.in_ok-give_up-in-None.ensures.state
