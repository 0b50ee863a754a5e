use Rattle.sw_convert_laid.proofs.Blocks.{sheet_signs}
use Rattle.sw_convert_laid.proofs.laws.blocks_are_told_by_lines.Goals as goal

pub returns : goal.returns
returns c = sheet_signs
