use Rattle.sw_scope.proofs.Bindings.{names_step}
use Rattle.sw_scope.proofs.binding.names_of.Goals as goal

pub params-preserved : goal.params-preserved
params-preserved c =
    names_step c.params.names.keys c.insert.new.self.keys _ c.args.params.now c.params.param-index c.param-item.result c.in_ok-share.field-0 c.params-test.true c.param-item.is c.in_ok-share.ensures c.in_ok-insert.ensures.keys c.params.invariant
