use Rattle.sw_eval_growing.proofs.Placed.{refused_there, grown_answer, grown_refused}
use Rattle.sw_eval_growing.proofs.built_ins.built_in_grown.Goals as goal

pub returns-in-Err : goal.returns-in-Err
returns-in-Err c =
    grown_refused _ _ _ _ _ (rw c.as_slice-in-Err.ensures at (c.at_argument.ensures _ (refused_there _ _ _ _ (rw c.as_slice.ensures at c.in-Err.ensures))))

pub returns-in-Ok : goal.returns-in-Ok
returns-in-Ok c = grown_answer _ _ _ _ _ _ c.requires (rw c.as_slice.ensures at c.in-Ok.ensures) c.grown_value.ensures
