use Rattle.sw_convert_values.proofs.Values.{values_written, plains_written}
use Rattle.sw_convert_values.proofs.laws.values_are_written.Goals as goal

pub returns : goal.returns
returns c = record { rows = values_written; plains = plains_written }
