use Rattle.sw_convert_lines_laid.proofs.Held.{held_texts_hold}
use Rattle.sw_convert_lines_laid.proofs.laws.held_texts_hold.Goals as goal

pub returns : goal.returns
returns c = held_texts_hold
