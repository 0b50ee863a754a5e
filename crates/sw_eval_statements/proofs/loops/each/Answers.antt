use Rattle.std.proofs.Common.{arith}
use Rattle.sw_eval_statements.specs.Loops.{each}
use Rattle.sw_eval_questions.specs.Ran.{still}
use Rattle.sw_eval_questions.proofs.Steps.{did_value, did_err, did_then, did_plain, ran_then, ran_did}
use Rattle.sw_eval_questions.proofs.Loops.{loop_at, loop_end}
use Rattle.sw_eval_statements.proofs.loops.each.Goals as goal

pub loop-one-init : goal.loop-one-init
loop-one-init g c = still _ _ _

pub returns-in_err-spend : goal.returns-in_err-spend
returns-in_err-spend g c =
    ran_did (loop_at (λ l s. each (g.B.Below.statements c.args.below) c.args.statement.now l s) c.args.elements.now c.loop-one.one-index c.one-item.result c.loop-one.walk.state c.loop-one-test.true c.one-item.is c.loop-one.invariant) (did_err _ (did_plain _ _ _ _ _ c.in_err-spend.ensures) c.from_residual.ensures)

pub returns-in_err-take_apart : goal.returns-in_err-take_apart
returns-in_err-take_apart g c =
    ran_did (loop_at (λ l s. each (g.B.Below.statements c.args.below) c.args.statement.now l s) c.args.elements.now c.loop-one.one-index c.one-item.result c.loop-one.walk.state c.loop-one-test.true c.one-item.is c.loop-one.invariant) (did_then _ (did_plain _ _ _ _ _ c.in_ok-spend.ensures) (did_err _ (did_plain _ _ _ _ _ (rw c.as_slice.ensures at c.in_err-take_apart.ensures)) c.from_residual-in_err-take_apart.ensures))

pub returns-in_err-value : goal.returns-in_err-value
returns-in_err-value g c =
    ran_did (loop_at (λ l s. each (g.B.Below.statements c.args.below) c.args.statement.now l s) c.args.elements.now c.loop-one.one-index c.one-item.result c.loop-one.walk.state c.loop-one-test.true c.one-item.is c.loop-one.invariant) (did_then _ (did_plain _ _ _ _ _ c.in_ok-spend.ensures) (did_then _ (did_plain _ _ _ _ _ (rw c.as_slice.ensures at c.in_ok-take_apart.ensures)) (did_err _ (rw c.as_slice-in-loop-one.ensures at c.in_err-value.ensures) c.from_residual-in_err-value.ensures)))

pub returns-in-Some : goal.returns-in-Some
returns-in-Some g c =
    ran_did (loop_at (λ l s. each (g.B.Below.statements c.args.below) c.args.statement.now l s) c.args.elements.now c.loop-one.one-index c.one-item.result c.loop-one.walk.state c.loop-one-test.true c.one-item.is c.loop-one.invariant) (did_then _ (did_plain _ _ _ _ _ c.in_ok-spend.ensures) (did_then _ (did_plain _ _ _ _ _ (rw c.as_slice.ensures at c.in_ok-take_apart.ensures)) (did_then _ (rw (c.as_slice-in-loop-one.ensures, c.in-Some.is) at c.in_ok-value.ensures) (did_value _ _ _ _))))

pub loop-one-preserved : goal.loop-one-preserved
loop-one-preserved g c =
    ran_then _ (ran_then _ (ran_then _ (loop_at (λ l s. each (g.B.Below.statements c.args.below) c.args.statement.now l s) c.args.elements.now c.loop-one.one-index c.one-item.result c.loop-one.walk.state c.loop-one-test.true c.one-item.is c.loop-one.invariant) (did_plain _ _ _ _ _ c.in_ok-spend.ensures)) (did_plain _ _ _ _ _ (rw c.as_slice.ensures at c.in_ok-take_apart.ensures))) (rw (c.as_slice-in-loop-one.ensures, c.in_default.is) at c.in_ok-value.ensures)

pub returns : goal.returns
returns g c =
    ran_did (loop_end (λ l s. each (g.B.Below.statements c.args.below) c.args.statement.now l s) c.args.elements.now c.loop-one.one-index c.loop-one.walk.state (omega arith) c.loop-one.invariant) (did_value _ _ _ _)
