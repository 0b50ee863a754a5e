use Rattle.sw_convert_tokens.proofs.Words.{words_written}
use Rattle.sw_convert_tokens.proofs.laws.words_are_written.Goals as goal

pub returns : goal.returns
returns c = words_written
