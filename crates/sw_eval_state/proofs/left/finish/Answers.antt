use Rattle.std.proofs.Common.{refl}
use Rattle.sw_eval_state.specs.Left.{finish_of}
use Rattle.sw_eval_state.proofs.left.finish.Goals as goal

pub returns : goal.returns
unfolding finish_of
returns c = rw (c.in_ok-new.ensures, c.in_ok-variables.ensures, c.as_slice.ensures, c.in_ok-names.ensures, c.in_ok-callables.ensures, c.as_slice-2.ensures, c.replace-taken.ensures.value, c.in_ok-css.ensures, c.replace-css.ensures.value) refl
