use Rattle.sw_convert_statements.proofs.ReadsBack.{sheets_read_back}
use Rattle.sw_convert_statements.proofs.laws.sheets_read_back.Goals as goal

pub returns : goal.returns
returns c = sheets_read_back
