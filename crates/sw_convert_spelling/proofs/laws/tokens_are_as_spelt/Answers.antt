use Rattle.sw_convert_spelling.proofs.Walked.{these}
use Rattle.sw_convert_spelling.proofs.laws.tokens_are_as_spelt.Goals as goal

pub returns : goal.returns
returns c = these
