use Rattle.std.proofs.Common.{arith}
use Rattle.sw_eval_expressions.specs.Expressions.{links}
use Rattle.sw_eval_questions.specs.Ran.{still}
use Rattle.sw_eval_questions.proofs.Steps.{did_value, did_err, ran_then, ran_did}
use Rattle.sw_eval_questions.proofs.Loops.{loop_at, loop_end}
use Rattle.sw_eval_expressions.proofs.Changed.{changed_err}
use Rattle.sw_eval_expressions.proofs.value.links.Goals as goal

pub loop-one-init : goal.loop-one-init
loop-one-init g c =
    still _ _ _

pub returns-in_err-linked : goal.returns-in_err-linked
returns-in_err-linked g c =
    ran_did (loop_at (λ l s. links (g.B.Below.values c.args.level.below) c.args.level.parens l c.loop-one.left c.args.span.now s) c.args.all.now c.loop-one.one-index c.one-item.result c.loop-one.walk.state c.loop-one-test.true c.one-item.is c.loop-one.invariant) (did_err _ c.in_err-linked.ensures (changed_err _ _ _ c.from_residual.ensures))

pub loop-one-preserved : goal.loop-one-preserved
loop-one-preserved g c =
    ran_then _ (loop_at (λ l s. links (g.B.Below.values c.args.level.below) c.args.level.parens l c.loop-one.left c.args.span.now s) c.args.all.now c.loop-one.one-index c.one-item.result c.loop-one.walk.state c.loop-one-test.true c.one-item.is c.loop-one.invariant) c.in_ok-linked.ensures

pub returns : goal.returns
returns g c =
    ran_did (loop_end (λ l s. links (g.B.Below.values c.args.level.below) c.args.level.parens l c.loop-one.left c.args.span.now s) c.args.all.now c.loop-one.one-index c.loop-one.walk.state (omega arith) c.loop-one.invariant) (did_value _ _ _ _)
