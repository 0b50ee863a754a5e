use Rattle.sw_values.proofs.Alike.{node_back}
use Rattle.sw_values.proofs.value.Value.node.Goals as goal

pub returns-clause-node : goal.returns-clause-node
returns-clause-node c = node_back _ _ c.self.view_is
