use Rattle.sw_eval_growing.proofs.Ends.{three_ok, three_err}
use Rattle.sw_eval_growing.proofs.taking.three_taken.Goals as goal

pub returns-in-Ok : goal.returns-in-Ok
returns-in-Ok c = three_ok _ _ _ _ c.in-Some.ensures (rw c.in-Ok.is at c.two_taken.ensures)

pub returns-in-Err : goal.returns-in-Err
returns-in-Err c = three_err _ _ _ _ c.in-Some.ensures (rw c.in-Err.is at c.two_taken.ensures)
