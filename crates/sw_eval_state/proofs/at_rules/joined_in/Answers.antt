use Rattle.std.proofs.Common.{refl}
use Rattle.sw_eval_state.proofs.at_rules.joined_in.Goals as goal

pub returns-in-None : goal.returns-in-None
returns-in-None c = rw c.in-None.is refl

pub returns-in-Some : goal.returns-in-Some
returns-in-Some c = rw c.in-Some.is (rw c.get.ensures at c.join.ensures)
