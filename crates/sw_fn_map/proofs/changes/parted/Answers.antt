use Rattle.std.proofs.Common.{arith}
use Rattle.sw_fn_map.proofs.Steps.{parted-last}
use Rattle.sw_fn_map.proofs.changes.parted.Goals as goal

pub returns-in-len1-up : goal.returns-in-len1-up
returns-in-len1-up c = parted-last c.args.values.now c.last-item.result (omega arith) c.last-item.is
