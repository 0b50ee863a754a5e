use Rattle.sw_selector.proofs.Pairs.{in_order, each_pair}
use Rattle.sw_selector.proofs.laws.nests_in_order.Goals as goal

pub returns : goal.returns
returns c = record { order = in_order; count = each_pair }
