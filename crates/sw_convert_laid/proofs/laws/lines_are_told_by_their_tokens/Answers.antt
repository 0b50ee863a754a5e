use Rattle.sw_convert_laid.proofs.Held.{line_held}
use Rattle.sw_convert_laid.proofs.laws.lines_are_told_by_their_tokens.Goals as goal

pub returns : goal.returns
returns c = line_held
