use Rattle.sw_convert_spelling.proofs.Stays.{by_itself, stays}
use Rattle.sw_convert_spelling.proofs.laws.tokens_stay_before_others.Goals as goal

pub returns : goal.returns
returns c = record { alone = by_itself; stay = stays }
