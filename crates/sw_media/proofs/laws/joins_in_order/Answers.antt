use Rattle.sw_media.proofs.Counts.{in_order, counts}
use Rattle.sw_media.proofs.laws.joins_in_order.Goals as goal

pub returns : goal.returns
returns c = record { order = in_order; count = counts }
