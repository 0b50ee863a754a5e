use Rattle.sw_convert_again.proofs.RawTexts.{raw_texts_again}
use Rattle.sw_convert_again.proofs.law.raw_texts_are_read_again.Goals as goal

pub returns : goal.returns
returns c = raw_texts_again
