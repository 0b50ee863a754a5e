use Rattle.sw_convert_sheets_again.proofs.Sheets.{all_sheets_again}
use Rattle.sw_convert_sheets_again.proofs.law.sheets_are_read_again.Goals as goal

pub returns : goal.returns
returns c = all_sheets_again
