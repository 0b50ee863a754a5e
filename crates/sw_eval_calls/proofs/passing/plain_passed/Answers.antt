use Rattle.std.proofs.Common.{refl}
use Rattle.sw_eval_calls.specs.Passing.{plain_passed}
use Rattle.sw_eval_calls.proofs.Answering.{refused_then}
use Rattle.sw_eval_calls.proofs.passing.plain_passed.Goals as goal

pub returns-in_err-items : goal.returns-in_err-items
unfolding plain_passed
returns-in_err-items c = refused_then _ _ _ _ (rw c.as_slice.ensures at c.in_err-items.ensures) c.from_residual.ensures

pub returns-in_err-named : goal.returns-in_err-named
unfolding plain_passed
returns-in_err-named c =
    rw (rw c.as_slice.ensures at c.in_ok-items.ensures) (refused_then _ _ _ _ (rw c.as_slice-2.ensures at c.in_err-named.ensures) c.from_residual-in_err-named.ensures)

pub returns : goal.returns
unfolding plain_passed
returns c = rw (rw c.as_slice.ensures at c.in_ok-items.ensures, rw c.as_slice-2.ensures at c.in_ok-named.ensures) refl
