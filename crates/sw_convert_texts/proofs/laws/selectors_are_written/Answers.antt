use Rattle.sw_convert_texts.proofs.RawWritten.{selectors_written}
use Rattle.sw_convert_texts.proofs.laws.selectors_are_written.Goals as goal

pub returns : goal.returns
returns c = selectors_written
