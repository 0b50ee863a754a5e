use Rattle.sw_keeper.proofs.Tables as law
use Rattle.sw_keeper.proofs.laws.kept_is_one.Goals as goal

pub returns : goal.returns
returns c = law.kept_is_one
