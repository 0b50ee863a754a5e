use Rattle.sw_eval_state.proofs.Callers.{closed_some, closed_none}
use Rattle.sw_eval_state.proofs.state.State.close.Goals as goal

pub returns-in-Some : goal.returns-in-Some
returns-in-Some c = rw c.pop.ensures (closed_some c.args.self.now _ _ c.in-Some.ensures)

pub returns-in_default : goal.returns-in_default
returns-in_default c = rw (c.pop.ensures, c.in_default.ensures.1) (closed_none c.args.self.now c.in_default.ensures.0)
