use Rattle.std.proofs.Common.{refl}
use Rattle.sw_eval_state.proofs.state.State.sees_function.Goals as goal

pub returns-in-Some : goal.returns-in-Some
returns-in-Some c = rw (← c.in-Some.ensures) refl

pub returns-in-None : goal.returns-in-None
returns-in-None c = rw (← c.in-None.ensures) refl
