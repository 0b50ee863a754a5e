use Rattle.std.proofs.Common.{arith}
use Rattle.sw_eval_walk.specs.Arguments.{argument_values}
use Rattle.sw_eval_questions.specs.Ran.{still}
use Rattle.sw_eval_questions.proofs.Steps.{did_value, did_err, did_then, ran_then, ran_did, no_memory}
use Rattle.sw_eval_questions.proofs.Loops.{loop_at, loop_end}
use Rattle.sw_eval_walk.proofs.arguments.argument_values.Goals as goal

pub loop-one-init : goal.loop-one-init
loop-one-init g c =
    rw c.new-done.ensures (still _ _ _)

pub returns-in_err-value : goal.returns-in_err-value
returns-in_err-value g c =
    ran_did (loop_at (λ l s. argument_values (g.B.Below.values c.args.level.below) c.args.level.parens l c.loop-one.done s) c.args.all.now c.loop-one.one-index c.one-item.result c.loop-one.walk.state c.loop-one-test.true c.one-item.is c.loop-one.invariant) (did_err _ c.in_err-value.ensures c.from_residual.ensures)

pub returns-in_err-push : goal.returns-in_err-push
returns-in_err-push g c =
    ran_did (loop_at (λ l s. argument_values (g.B.Below.values c.args.level.below) c.args.level.parens l c.loop-one.done s) c.args.all.now c.loop-one.one-index c.one-item.result c.loop-one.walk.state c.loop-one-test.true c.one-item.is c.loop-one.invariant) (did_then _ c.in_ok-value.ensures (no_memory _ c.value_of.new.walk.state _ _ _ c.from_residual-in_err-push.ensures))

pub loop-one-preserved : goal.loop-one-preserved
loop-one-preserved g c =
    rw c.in_ok-push.ensures.ok (ran_then _ (loop_at (λ l s. argument_values (g.B.Below.values c.args.level.below) c.args.level.parens l c.loop-one.done s) c.args.all.now c.loop-one.one-index c.one-item.result c.loop-one.walk.state c.loop-one-test.true c.one-item.is c.loop-one.invariant) c.in_ok-value.ensures)

pub returns : goal.returns
returns g c =
    ran_did (loop_end (λ l s. argument_values (g.B.Below.values c.args.level.below) c.args.level.parens l c.loop-one.done s) c.args.all.now c.loop-one.one-index c.loop-one.walk.state (omega arith) c.loop-one.invariant) (did_value _ _ _ _)
