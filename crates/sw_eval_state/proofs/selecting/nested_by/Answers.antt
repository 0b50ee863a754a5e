use Rattle.sw_eval_state.proofs.selecting.nested_by.Goals as goal

pub returns-in-None : goal.returns-in-None
returns-in-None c = rw c.in-None.is c.nest.ensures

pub returns-in-Some : goal.returns-in-Some
returns-in-Some c = rw c.in-Some.is (rw c.get.ensures at c.nest-in-Some.ensures)
