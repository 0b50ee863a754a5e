use Rattle.sw_eval_configurations.proofs.Names.{named_next}
use Rattle.sw_eval_configurations.proofs.loads.named.Goals as goal

pub members-preserved : goal.members-preserved
members-preserved c =
    named_next _ _ c.args.members.now c.members.one-index c.one-item.result _ c.members-test.true c.one-item.is c.in_ok-name.ensures c.in_ok-push.ensures.ok c.members.invariant
