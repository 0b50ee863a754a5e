use Rattle.std.proofs.Common.{refl}
use Rattle.sw_eval_state.specs.Selecting.{parent_by}
use Rattle.sw_eval_calls.proofs.Answering.{refused_then, without_memory}
use Rattle.sw_eval_state.proofs.selecting.parent_by.Goals as goal

pub returns-in-None : goal.returns-in-None
unfolding parent_by
returns-in-None c = rw (c.in-None.is, c.null.ensures) refl

pub returns-in_err-texts-in-Some : goal.returns-in_err-texts-in-Some
returns-in_err-texts-in-Some c = without_memory _ _ c.from_residual.ensures

pub returns-in_err-complexes-in-Some : goal.returns-in_err-complexes-in-Some
unfolding parent_by
returns-in_err-complexes-in-Some c =
    rw (c.in-Some.is, ← c.get.ensures, ← c.in_ok-texts-in-Some.ensures, ← c.as_slice.ensures) (refused_then _ _ _ _ c.in_err-complexes-in-Some.ensures c.from_residual-in_err-complexes-in-Some.ensures)

pub returns-in_ok-complexes-in-Some : goal.returns-in_ok-complexes-in-Some
unfolding parent_by
returns-in_ok-complexes-in-Some c =
    rw (c.in-Some.is, ← c.get.ensures, ← c.in_ok-texts-in-Some.ensures, ← c.as_slice.ensures, c.in_ok-complexes-in-Some.ensures) c.list_value.ensures
