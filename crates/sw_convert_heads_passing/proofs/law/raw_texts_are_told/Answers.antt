use Rattle.sw_convert_heads_passing.proofs.RawTexts.{raw_texts_are_told}
use Rattle.sw_convert_heads_passing.proofs.law.raw_texts_are_told.Goals as goal

pub returns : goal.returns
returns c = raw_texts_are_told
