use Rattle.sw_convert_passing.proofs.Seeing.{passed_is_seen}
use Rattle.sw_convert_passing.proofs.law.tokens_are_passed.Goals as goal

pub returns : goal.returns
returns c = passed_is_seen
