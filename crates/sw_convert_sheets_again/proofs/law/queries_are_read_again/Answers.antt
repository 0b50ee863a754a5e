use Rattle.sw_convert_sheets_again.proofs.Media.{queries_again}
use Rattle.sw_convert_sheets_again.proofs.law.queries_are_read_again.Goals as goal

pub returns : goal.returns
returns c = queries_again
