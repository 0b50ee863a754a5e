use Rattle.sw_modules.proofs.ComesBy as law
use Rattle.sw_modules.proofs.laws.comes_by.Goals as goal

pub returns : goal.returns
returns c = law.comes_by
