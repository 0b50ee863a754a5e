use Rattle.sw_convert_again.proofs.Blocks.{blocks_again, sheets_again}
use Rattle.sw_convert_again.proofs.law.sheets_are_read_again.Goals as goal

pub returns : goal.returns
returns c = record { blocks = blocks_again; sheets = sheets_again }
