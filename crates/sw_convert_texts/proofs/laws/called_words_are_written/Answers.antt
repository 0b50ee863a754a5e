use Rattle.sw_convert_texts.proofs.WordsWithValues.{called_words_written}
use Rattle.sw_convert_texts.proofs.laws.called_words_are_written.Goals as goal

pub returns : goal.returns
returns c = called_words_written
