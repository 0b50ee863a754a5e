use Rattle.std.proofs.Common.{refl}
use Rattle.sw_eval_calls.proofs.Answering.{without_memory}
use Rattle.sw_eval_built_in_calls.proofs.built_ins.filled_with.Goals as goal

pub returns-in_err-share-in-Filled : goal.returns-in_err-share-in-Filled
returns-in_err-share-in-Filled c = without_memory _ _ c.from_residual.ensures

pub returns-in_ok-share-in-Filled : goal.returns-in_ok-share-in-Filled
returns-in_ok-share-in-Filled c = rw (c.in-Filled.is, c.in_ok-share-in-Filled.ensures) refl

pub returns-in-Default : goal.returns-in-Default
returns-in-Default c = rw (c.in-Default.is, ← c.default_at.ensures) c.constant_of.ensures
