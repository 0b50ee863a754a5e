use Rattle.sw_convert_texts.proofs.WordsWithValues.{words_written}
use Rattle.sw_convert_texts.proofs.laws.words_with_values_are_written.Goals as goal

pub returns : goal.returns
returns c = words_written
