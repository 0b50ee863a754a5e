use Rattle.sw_eval_calls.proofs.Answering.{refused_then, without_memory}
use Rattle.sw_eval_raw_text.proofs.special.computed.Goals as goal

pub returns-in_err-compared : goal.returns-in_err-compared
returns-in_err-compared c = refused_then _ _ _ _ c.in_err-compared.ensures c.from_residual.ensures

pub returns-in_err-passed : goal.returns-in_err-passed
returns-in_err-passed c = without_memory _ _ c.from_residual-in_err-passed.ensures

pub returns : goal.returns
returns c = rw (c.in_ok-compared.ensures, ← c.as_slice.ensures, ← c.in_ok-passed.ensures) c.built_in_value.ensures
