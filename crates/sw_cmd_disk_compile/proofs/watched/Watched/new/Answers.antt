use Rattle.std.proofs.Common.{ap}
use Rattle.sw_keeper.specs.Keeping.{Keeping}
use Rattle.sw_cmd_disk_compile.proofs.Clearing.{covers_empty}
use Rattle.sw_cmd_disk_compile.proofs.watched.Watched.new.Goals as goal

pub invariant_of-result : goal.invariant_of-result
invariant_of-result g c = covers_empty c.new-2.result c.new.result.folder (ap (λ (k : Keeping). k.folder) c.new.ensures)
