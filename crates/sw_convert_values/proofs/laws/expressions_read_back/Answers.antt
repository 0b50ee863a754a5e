use Rattle.sw_convert_values.proofs.ReadsBack.{expressions_read_back}
use Rattle.sw_convert_values.proofs.laws.expressions_read_back.Goals as goal

pub returns : goal.returns
returns c = expressions_read_back
