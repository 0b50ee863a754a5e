use Rattle.sw_convert_heads_passing.proofs.Sheets.{sheets_are_told}
use Rattle.sw_convert_heads_passing.proofs.law.sheets_are_told.Goals as goal

pub returns : goal.returns
returns c = sheets_are_told
