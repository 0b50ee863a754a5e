use Rattle.sw_convert_sheets_again.proofs.Sheets.{all_statements_again, all_blocks_again}
use Rattle.sw_convert_sheets_again.proofs.law.statements_are_read_again.Goals as goal

pub returns : goal.returns
returns c = record { statements = all_statements_again; blocks = all_blocks_again }
