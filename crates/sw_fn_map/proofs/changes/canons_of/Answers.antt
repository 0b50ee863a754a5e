use Rattle.sw_fn_map.proofs.Steps.{canons-step}
use Rattle.sw_fn_map.proofs.changes.canons_of.Goals as goal

pub keys-preserved : goal.keys-preserved
keys-preserved c =
    canons-step c.keys.canons.keys c.insert.new.self.keys _ c.args.keys.now c.keys.at c.index-keys-at.result c.in_ok-canon.field-0 c.keys-test.true c.index-keys-at.is c.in_ok-canon.ensures c.in_ok-insert.ensures.keys c.keys.invariant
