use Rattle.std.proofs.Common.{arith}
use Rattle.sw_eval_statements.specs.Parameters.{fill}
use Rattle.sw_eval_questions.specs.Ran.{still}
use Rattle.sw_eval_questions.proofs.Steps.{no_memory_by, gives_state, did_value, did_err, did_then, ran_then, ran_did}
use Rattle.sw_eval_questions.proofs.Loops.{loop_at, loop_end}
use Rattle.sw_eval_statements.proofs.includes.fill.Goals as goal

pub loop-one-init : goal.loop-one-init
loop-one-init g c =
    still _ _ _

pub returns-in_err-value : goal.returns-in_err-value
returns-in_err-value g c =
    ran_did (loop_at (λ l s. fill (g.B.Below.values c.args.below) c.args.params.now l s) c.args.slots.now c.loop-one.one-index c.one-item.result c.loop-one.walk.state c.loop-one-test.true c.one-item.is c.loop-one.invariant) (did_err _ c.in_err-value.ensures c.from_residual.ensures)

pub returns-in_err-give : goal.returns-in_err-give
returns-in_err-give g c =
    ran_did (loop_at (λ l s. fill (g.B.Below.values c.args.below) c.args.params.now l s) c.args.slots.now c.loop-one.one-index c.one-item.result c.loop-one.walk.state c.loop-one-test.true c.one-item.is c.loop-one.invariant) (did_then _ c.in_ok-value.ensures (no_memory_by _ _ _ _ _ _ _ _ c.in_err-give.ensures c.from_residual-in_err-give.ensures))

pub loop-one-preserved : goal.loop-one-preserved
loop-one-preserved g c =
    rw (gives_state c.in_ok-give.ensures) at (ran_then _ (loop_at (λ l s. fill (g.B.Below.values c.args.below) c.args.params.now l s) c.args.slots.now c.loop-one.one-index c.one-item.result c.loop-one.walk.state c.loop-one-test.true c.one-item.is c.loop-one.invariant) c.in_ok-value.ensures)

pub returns : goal.returns
returns g c =
    ran_did (loop_end (λ l s. fill (g.B.Below.values c.args.below) c.args.params.now l s) c.args.slots.now c.loop-one.one-index c.loop-one.walk.state (omega arith) c.loop-one.invariant) (did_value _ _ _ _)
