use Rattle.std.proofs.Common.{refl, arith}
use Rattle.sw_eval_questions.specs.Ran.{still}
use Rattle.sw_eval_top_level.specs.Tops.{rest}
use Rattle.sw_eval_top_level.proofs.Walks.{walk_more, walk_err, walk_waits, walk_end}
use Rattle.sw_eval_top_level.proofs.top.walk_on.Goals as goal

pub loop-next-init : goal.loop-next-init
loop-next-init g c = still _ _ _

pub returns-in_err-op-clause-walked : goal.returns-in_err-op-clause-walked
returns-in_err-op-clause-walked g c =
    let all = rest (g.B.Below.values c.args.below) (g.B.Below.statements c.args.below) c.args.config.now c.args.all.now in
    walk_err (g.B.Below.values c.args.below) (g.B.Below.statements c.args.below) c.args.config.now g.W.World.gives c.args.all.now _ _ _ _ _ _ _ c.loop-next.next c.index-all-next.result _ _ _ all c.args.next.now c.args.walk.now.state _ _ refl c.loop-next-test.true c.index-all-next.is c.loop-next.invariant c.in_err-op.ensures.did c.from_residual.ensures

pub returns-in-Some-clause-walked : goal.returns-in-Some-clause-walked
returns-in-Some-clause-walked g c =
    walk_waits (g.B.Below.values c.args.below) (g.B.Below.statements c.args.below) c.args.config.now g.W.World.gives c.args.all.now _ _ _ _ _ _ _ c.loop-next.next c.index-all-next.result _ _ c.in-Some.op c.loop-next-test.true c.index-all-next.is c.loop-next.invariant (rw c.in-Some.is at c.in_ok-op.ensures.did)

pub loop-next-preserved : goal.loop-next-preserved
loop-next-preserved g c =
    walk_more (g.B.Below.values c.args.below) (g.B.Below.statements c.args.below) c.args.config.now g.W.World.gives c.args.all.now _ _ _ _ _ _ _ c.loop-next.next c.index-all-next.result _ _ c.loop-next-test.true c.index-all-next.is c.loop-next.invariant (rw c.in_default.is at c.in_ok-op.ensures.did)

pub returns-clause-walked : goal.returns-clause-walked
returns-clause-walked g c =
    walk_end (g.B.Below.values c.args.below) (g.B.Below.statements c.args.below) c.args.config.now g.W.World.gives c.args.all.now _ _ _ _ _ c.loop-next.next c.loop-next.walk.state (omega arith) c.loop-next.invariant
