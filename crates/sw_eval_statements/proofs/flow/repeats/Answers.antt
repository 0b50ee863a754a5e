use Rattle.std.proofs.Common.{◌≡◌, ◌+◌, suc, arith}
use Rattle.sw_eval_statements.specs.Flow.{repeat, repeats}
use Rattle.sw_eval_questions.specs.Ran.{still}
use Rattle.sw_eval_questions.proofs.Steps.{did_value, did_err, did_then, did_plain, ran_then, ran_did}
use Rattle.sw_eval_questions.proofs.Choices.{did_yes, did_no}
use Rattle.sw_eval_questions.proofs.Counts.{turn_at, turn_end}
use Rattle.sw_eval_statements.proofs.flow.repeats.Goals as goal

pub loop-left-init : goal.loop-left-init
unfolding repeats
loop-left-init g c =
    let tests : c.from-left.result + 1 ≡ suc c.args.walk.now.state.turns = omega (arith, c.from-left.ensures) in rw tests (still _ _ _)

pub returns-in_err-goes_on : goal.returns-in_err-goes_on
returns-in_err-goes_on g c =
    ran_did (turn_at (λ n s. repeat (g.B.Below.values c.args.below) (g.B.Below.statements c.args.below) c.args.statement.now n s) c.loop-left.left c.loop-left.walk.state c.loop-left-test.true c.loop-left.invariant) (did_err _ c.in_err-goes_on.ensures c.from_residual.ensures)

pub returns-then-not-goes_on : goal.returns-then-not-goes_on
returns-then-not-goes_on g c =
    ran_did (turn_at (λ n s. repeat (g.B.Below.values c.args.below) (g.B.Below.statements c.args.below) c.args.statement.now n s) c.loop-left.left c.loop-left.walk.state c.loop-left-test.true c.loop-left.invariant) (did_then _ c.in_ok-goes_on.ensures (did_no _ _ _ c.if-not-goes_on.true (did_value _ _ _ _)))

pub returns-in_err-spend : goal.returns-in_err-spend
returns-in_err-spend g c =
    ran_did (turn_at (λ n s. repeat (g.B.Below.values c.args.below) (g.B.Below.statements c.args.below) c.args.statement.now n s) c.loop-left.left c.loop-left.walk.state c.loop-left-test.true c.loop-left.invariant) (did_then _ c.in_ok-goes_on.ensures (did_yes _ _ _ c.if-not-goes_on.false (did_err _ (did_plain _ _ _ _ _ c.in_err-spend.ensures) c.from_residual-in_err-spend.ensures)))

pub returns-in_err-value : goal.returns-in_err-value
returns-in_err-value g c =
    ran_did (turn_at (λ n s. repeat (g.B.Below.values c.args.below) (g.B.Below.statements c.args.below) c.args.statement.now n s) c.loop-left.left c.loop-left.walk.state c.loop-left-test.true c.loop-left.invariant) (did_then _ c.in_ok-goes_on.ensures (did_yes _ _ _ c.if-not-goes_on.false (did_then _ (did_plain _ _ _ _ _ c.in_ok-spend.ensures) (did_err _ (rw c.as_slice.ensures at c.in_err-value.ensures) c.from_residual-in_err-value.ensures))))

pub returns-in-Some : goal.returns-in-Some
returns-in-Some g c =
    ran_did (turn_at (λ n s. repeat (g.B.Below.values c.args.below) (g.B.Below.statements c.args.below) c.args.statement.now n s) c.loop-left.left c.loop-left.walk.state c.loop-left-test.true c.loop-left.invariant) (did_then _ c.in_ok-goes_on.ensures (did_yes _ _ _ c.if-not-goes_on.false (did_then _ (did_plain _ _ _ _ _ c.in_ok-spend.ensures) (did_then _ (rw (c.as_slice.ensures, c.in-Some.is) at c.in_ok-value.ensures) (did_value _ _ _ _)))))

pub loop-left-preserved : goal.loop-left-preserved
loop-left-preserved g c =
    ran_then _ (ran_then _ (rw c.if-not-goes_on.false at (ran_then _ (turn_at (λ n s. repeat (g.B.Below.values c.args.below) (g.B.Below.statements c.args.below) c.args.statement.now n s) c.loop-left.left c.loop-left.walk.state c.loop-left-test.true c.loop-left.invariant) c.in_ok-goes_on.ensures)) (did_plain _ _ _ _ _ c.in_ok-spend.ensures)) (rw (c.as_slice.ensures, c.in_default.is) at c.in_ok-value.ensures)

pub returns : goal.returns
returns g c =
    ran_did (turn_end (λ n s. repeat (g.B.Below.values c.args.below) (g.B.Below.statements c.args.below) c.args.statement.now n s) c.loop-left.left c.loop-left.walk.state (omega arith) c.loop-left.invariant) (did_plain _ c.loop-left.walk.state _ _ _ (c.fails.ensures c.loop-left.walk.state))
