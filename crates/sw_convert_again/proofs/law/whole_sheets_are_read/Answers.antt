use Rattle.sw_convert_again.proofs.Whole.{sheets}
use Rattle.sw_convert_again.proofs.law.whole_sheets_are_read.Goals as goal

pub returns : goal.returns
returns c = sheets
