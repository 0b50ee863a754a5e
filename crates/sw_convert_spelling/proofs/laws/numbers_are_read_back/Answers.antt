use Rattle.sw_convert_spelling.proofs.Numerals.{read_back}
use Rattle.sw_convert_spelling.proofs.laws.numbers_are_read_back.Goals as goal

pub returns : goal.returns
returns c = read_back
