use Rattle.std.proofs.Common.{arith}
use Rattle.sw_eval_statements.specs.Flow.{branches}
use Rattle.sw_eval_questions.specs.Ran.{still}
use Rattle.sw_eval_questions.proofs.Steps.{did_value, did_err, did_then, ran_then, ran_did}
use Rattle.sw_eval_questions.proofs.Loops.{loop_at, loop_end}
use Rattle.sw_eval_questions.proofs.Choices.{did_yes}
use Rattle.sw_eval_statements.proofs.flow.branches.Goals as goal

pub loop-one-init : goal.loop-one-init
loop-one-init g c = still _ _ _

pub returns-in_err-holds : goal.returns-in_err-holds
returns-in_err-holds g c =
    ran_did (loop_at (λ l s. branches (g.B.Below.values c.args.below) (g.B.Below.statements c.args.below) c.args.otherwise.now l s) c.args.all.now c.loop-one.one-index c.one-item.result c.loop-one.walk.state c.loop-one-test.true c.one-item.is c.loop-one.invariant) (did_err _ c.in_err-holds.ensures c.from_residual.ensures)

pub returns-then-holds : goal.returns-then-holds
returns-then-holds g c =
    ran_did (loop_at (λ l s. branches (g.B.Below.values c.args.below) (g.B.Below.statements c.args.below) c.args.otherwise.now l s) c.args.all.now c.loop-one.one-index c.one-item.result c.loop-one.walk.state c.loop-one-test.true c.one-item.is c.loop-one.invariant) (did_then _ c.in_ok-holds.ensures (did_yes _ _ _ c.if-holds.true (rw c.as_slice.ensures at c.framed.ensures)))

pub loop-one-preserved : goal.loop-one-preserved
loop-one-preserved g c =
    rw c.if-holds.false at (ran_then _ (loop_at (λ l s. branches (g.B.Below.values c.args.below) (g.B.Below.statements c.args.below) c.args.otherwise.now l s) c.args.all.now c.loop-one.one-index c.one-item.result c.loop-one.walk.state c.loop-one-test.true c.one-item.is c.loop-one.invariant) c.in_ok-holds.ensures)

pub returns-in-Some : goal.returns-in-Some
returns-in-Some g c =
    ran_did (loop_end (λ l s. branches (g.B.Below.values c.args.below) (g.B.Below.statements c.args.below) c.args.otherwise.now l s) c.args.all.now c.loop-one.one-index c.loop-one.walk.state (omega arith) c.loop-one.invariant) (rw c.in-Some.is (rw c.as_slice-in-Some.ensures at c.framed-in-Some.ensures))

pub returns-in-None : goal.returns-in-None
returns-in-None g c =
    ran_did (loop_end (λ l s. branches (g.B.Below.values c.args.below) (g.B.Below.statements c.args.below) c.args.otherwise.now l s) c.args.all.now c.loop-one.one-index c.loop-one.walk.state (omega arith) c.loop-one.invariant) (rw c.in-None.is (did_value _ _ _ _))
