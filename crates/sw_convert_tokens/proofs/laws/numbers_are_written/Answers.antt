use Rattle.sw_convert_tokens.proofs.OldNumbers.{numbers_written}
use Rattle.sw_convert_tokens.proofs.laws.numbers_are_written.Goals as goal

pub returns : goal.returns
returns c = numbers_written
