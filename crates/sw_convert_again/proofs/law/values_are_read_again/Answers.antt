use Rattle.sw_convert_again.proofs.Values.{values_again}
use Rattle.sw_convert_again.proofs.law.values_are_read_again.Goals as goal

pub returns : goal.returns
returns c = values_again
