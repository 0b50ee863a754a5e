use Rattle.std.proofs.Common.{refl}
use Rattle.sw_eval_state.proofs.called.mixin_by.Goals as goal

pub returns-in-Callable : goal.returns-in-Callable
returns-in-Callable c = λ s. rw c.in-Callable.is refl
