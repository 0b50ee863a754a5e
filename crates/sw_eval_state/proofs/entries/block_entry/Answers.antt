use Rattle.std.proofs.Common.{refl}
use Rattle.sw_eval_state.specs.Entries.{block_entry}
use Rattle.sw_eval_calls.proofs.Answering.{refused_then, without_memory}
use Rattle.sw_eval_state.proofs.entries.block_entry.Goals as goal

pub returns-in_err-slots : goal.returns-in_err-slots
unfolding block_entry
returns-in_err-slots c = refused_then _ _ _ _ (rw c.get.ensures at c.in_err-slots.ensures) c.from_residual.ensures

pub returns-in_err-here : goal.returns-in_err-here
returns-in_err-here c = without_memory _ _ c.from_residual-in_err-here.ensures

pub returns : goal.returns
unfolding block_entry
returns c = rw (rw c.get.ensures at c.in_ok-slots.ensures, c.in_ok-here.ensures) refl
