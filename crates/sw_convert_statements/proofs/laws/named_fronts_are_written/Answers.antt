use Rattle.sw_convert_statements.proofs.Names.{named_fronts_written}
use Rattle.sw_convert_statements.proofs.laws.named_fronts_are_written.Goals as goal

pub returns : goal.returns
returns c = named_fronts_written
