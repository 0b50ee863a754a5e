use Rattle.sw_convert_texts.proofs.WordsWithValues.{at_names_written}
use Rattle.sw_convert_texts.proofs.laws.at_names_are_written.Goals as goal

pub returns : goal.returns
returns c = at_names_written
