use Rattle.std.proofs.Common.{refl}
use Rattle.sw_eval_state.specs.Entries.{function_entry}
use Rattle.sw_eval_calls.proofs.Answering.{refused_then}
use Rattle.sw_eval_state.proofs.entries.function_entry.Goals as goal

pub returns-in_err-slots : goal.returns-in_err-slots
unfolding function_entry
returns-in_err-slots c = refused_then _ _ _ _ (rw c.get.ensures at c.in_err-slots.ensures) c.from_residual.ensures

pub returns : goal.returns
unfolding function_entry
returns c = rw (rw c.get.ensures at c.in_ok-slots.ensures, c.function_here.ensures) refl
