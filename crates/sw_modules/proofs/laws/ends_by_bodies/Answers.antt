use Rattle.sw_modules.proofs.Ending as law
use Rattle.sw_modules.proofs.laws.ends_by_bodies.Goals as goal

pub returns : goal.returns
returns c = law.ends_by_bodies
