use Rattle.sw_convert_texts.proofs.RawWritten.{raw_texts_written}
use Rattle.sw_convert_texts.proofs.laws.raw_texts_are_written.Goals as goal

pub returns : goal.returns
returns c = raw_texts_written
