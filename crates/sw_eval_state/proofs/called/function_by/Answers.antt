use Rattle.std.proofs.Common.{refl}
use Rattle.sw_eval_state.proofs.called.function_by.Goals as goal

pub returns-in-Callable : goal.returns-in-Callable
returns-in-Callable c = λ s. rw c.in-Callable.is refl

pub returns-in-BuiltIn : goal.returns-in-BuiltIn
returns-in-BuiltIn c = λ s. rw c.in-BuiltIn.is (c.built_in_by.ensures s)

pub returns-in-NoMember : goal.returns-in-NoMember
returns-in-NoMember c = λ s. rw c.in-NoMember.is (c.global_by.ensures s)
