use Rattle.sw_convert_texts.proofs.SpecialWritten.{specials_written}
use Rattle.sw_convert_texts.proofs.laws.specials_are_written.Goals as goal

pub returns : goal.returns
returns c = specials_written
