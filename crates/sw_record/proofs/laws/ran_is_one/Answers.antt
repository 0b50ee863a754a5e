use Rattle.sw_record.proofs.One as law
use Rattle.sw_record.proofs.laws.ran_is_one.Goals as goal

pub returns : goal.returns
returns c = law.ran_is_one
