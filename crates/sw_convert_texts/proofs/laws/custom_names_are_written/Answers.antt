use Rattle.sw_convert_texts.proofs.WordsWithValues.{custom_names_written}
use Rattle.sw_convert_texts.proofs.laws.custom_names_are_written.Goals as goal

pub returns : goal.returns
returns c = custom_names_written
