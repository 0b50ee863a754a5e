use Rattle.std.proofs.Common.{arith}
use Rattle.sw_eval_statements.specs.Flow.{block}
use Rattle.sw_eval_questions.specs.Ran.{still}
use Rattle.sw_eval_questions.proofs.Steps.{did_value, did_err, did_then, ran_then, ran_did}
use Rattle.sw_eval_questions.proofs.Loops.{loop_at, loop_end}
use Rattle.sw_eval_statements.proofs.flow.block.Goals as goal

pub loop-one-init : goal.loop-one-init
loop-one-init g c = still _ _ _

pub returns-in_err-value : goal.returns-in_err-value
returns-in_err-value g c =
    ran_did (loop_at (λ l s. block (g.B.Below.statements c.args.below) l s) c.args.all.now c.loop-one.one-index c.one-item.result c.loop-one.walk.state c.loop-one-test.true c.one-item.is c.loop-one.invariant) (did_err _ c.in_err-value.ensures c.from_residual.ensures)

pub returns-in-Some : goal.returns-in-Some
returns-in-Some g c =
    ran_did (loop_at (λ l s. block (g.B.Below.statements c.args.below) l s) c.args.all.now c.loop-one.one-index c.one-item.result c.loop-one.walk.state c.loop-one-test.true c.one-item.is c.loop-one.invariant) (did_then _ (rw c.in-Some.is at c.in_ok-value.ensures) (did_value _ _ _ _))

pub loop-one-preserved : goal.loop-one-preserved
loop-one-preserved g c =
    ran_then _ (loop_at (λ l s. block (g.B.Below.statements c.args.below) l s) c.args.all.now c.loop-one.one-index c.one-item.result c.loop-one.walk.state c.loop-one-test.true c.one-item.is c.loop-one.invariant) (rw c.in_default.is at c.in_ok-value.ensures)

pub returns : goal.returns
returns g c =
    ran_did (loop_end (λ l s. block (g.B.Below.statements c.args.below) l s) c.args.all.now c.loop-one.one-index c.loop-one.walk.state (omega arith) c.loop-one.invariant) (did_value _ _ _ _)
