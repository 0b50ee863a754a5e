use Rattle.sw_convert_statements.proofs.Sheets.{sheets_written}
use Rattle.sw_convert_statements.proofs.laws.sheets_are_written.Goals as goal

pub returns : goal.returns
returns c = sheets_written
