use Rattle.std.proofs.Common.{arith}
use Rattle.sw_eval_questions.specs.Ran.{still}
use Rattle.sw_eval_questions.proofs.Steps.{did_value, did_err, did_then, no_memory, ran_then, ran_did}
use Rattle.sw_eval_questions.proofs.Loops.{loop_at, loop_end}
use Rattle.sw_eval_top_level.specs.Loading.{entries}
use Rattle.sw_eval_top_level.proofs.loads.entries.Goals as goal

pub returns-in_err-done : goal.returns-in_err-done
returns-in_err-done g c = no_memory _ c.args.walk.now.state _ _ _ c.from_residual.ensures

pub all-init : goal.all-init
all-init g c = rw c.in_ok-done.ensures (still _ _ _)

pub returns-in_err-value : goal.returns-in_err-value
returns-in_err-value g c =
    ran_did (loop_at (λ l s. entries (g.B.Below.values c.args.below) c.args.passed.now l c.all.done s) c.args.all.now c.all.one-index c.one-item.result c.all.walk.state c.all-test.true c.one-item.is c.all.invariant) (did_err _ c.in_err-value.ensures c.from_residual-in_err-value.ensures)

pub returns-in_err-given : goal.returns-in_err-given
returns-in_err-given g c =
    ran_did (loop_at (λ l s. entries (g.B.Below.values c.args.below) c.args.passed.now l c.all.done s) c.args.all.now c.all.one-index c.one-item.result c.all.walk.state c.all-test.true c.one-item.is c.all.invariant) (did_then _ c.in_ok-value.ensures (no_memory _ _ _ _ _ c.from_residual-in_err-given.ensures))

pub returns-in_err-push : goal.returns-in_err-push
returns-in_err-push g c =
    ran_did (loop_at (λ l s. entries (g.B.Below.values c.args.below) c.args.passed.now l c.all.done s) c.args.all.now c.all.one-index c.one-item.result c.all.walk.state c.all-test.true c.one-item.is c.all.invariant) (did_then _ c.in_ok-value.ensures (no_memory _ _ _ _ _ c.from_residual-in_err-push.ensures))

pub all-preserved : goal.all-preserved
all-preserved g c =
    rw (c.in_ok-push.ensures.ok, c.in_ok-given.ensures) (ran_then _ (loop_at (λ l s. entries (g.B.Below.values c.args.below) c.args.passed.now l c.all.done s) c.args.all.now c.all.one-index c.one-item.result c.all.walk.state c.all-test.true c.one-item.is c.all.invariant) c.in_ok-value.ensures)

pub returns : goal.returns
returns g c =
    ran_did (loop_end (λ l s. entries (g.B.Below.values c.args.below) c.args.passed.now l c.all.done s) c.args.all.now c.all.one-index c.all.walk.state (omega arith) c.all.invariant) (did_value _ _ _ _)
