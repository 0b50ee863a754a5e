use Rattle.sw_convert_spelling.proofs.Strings.{stands_for}
use Rattle.sw_convert_spelling.proofs.laws.strings_are_read_back.Goals as goal

pub returns : goal.returns
returns c = stands_for
