use Rattle.sw_eval_calls.specs.Passing.{bound}
use Rattle.sw_eval_calls.proofs.Answering.{refused_then}
use Rattle.sw_eval_calls.proofs.passing.bound.Goals as goal

pub returns-in_err-plain : goal.returns-in_err-plain
unfolding bound
returns-in_err-plain c = refused_then _ _ _ _ c.in_err-plain.ensures c.from_residual.ensures

pub returns : goal.returns
unfolding bound
returns c = rw c.in_ok-plain.ensures c.bound_by.ensures
