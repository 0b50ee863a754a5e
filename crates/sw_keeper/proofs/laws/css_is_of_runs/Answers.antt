use Rattle.sw_keeper.proofs.Outputs as law
use Rattle.sw_keeper.proofs.laws.css_is_of_runs.Goals as goal

pub returns : goal.returns
returns c = law.css_is_of_runs
