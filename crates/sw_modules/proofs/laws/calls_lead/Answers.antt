use Rattle.sw_modules.proofs.Calls as law
use Rattle.sw_modules.proofs.laws.calls_lead.Goals as goal

pub returns : goal.returns
returns c = law.calls_lead
