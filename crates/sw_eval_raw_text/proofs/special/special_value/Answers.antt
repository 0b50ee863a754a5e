use Rattle.sw_eval_raw_text.specs.Special.{special_value}
use Rattle.sw_eval_calls.proofs.Answering.{refused_then, without_memory}
use Rattle.sw_eval_raw_text.proofs.special.special_value.Goals as goal

pub returns-in_err-spaced : goal.returns-in_err-spaced
returns-in_err-spaced c = without_memory _ _ c.from_residual.ensures

pub returns-in_err-text : goal.returns-in_err-text
unfolding special_value
returns-in_err-text c =
    rw (← c.in_ok-spaced.ensures, ← c.as_slice.ensures) (refused_then _ _ _ _ c.in_err-text.ensures c.from_residual-in_err-text.ensures)

pub returns : goal.returns
unfolding special_value
returns c = rw (← c.in_ok-spaced.ensures, ← c.as_slice.ensures, c.in_ok-text.ensures) c.string_value.ensures
