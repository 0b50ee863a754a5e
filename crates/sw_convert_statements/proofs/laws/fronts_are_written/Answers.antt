use Rattle.sw_convert_statements.proofs.Fronts.{branches_written, fronts_written}
use Rattle.sw_convert_statements.proofs.laws.fronts_are_written.Goals as goal

pub returns : goal.returns
returns c = record { fronts = fronts_written; branches = branches_written }
