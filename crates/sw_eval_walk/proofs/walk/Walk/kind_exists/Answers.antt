use Rattle.sw_eval_walk.proofs.walk.Walk.kind_exists.Goals as goal

pub returns-in-Variable : goal.returns-in-Variable
returns-in-Variable g c =
    rw c.in-Variable.is c.global_exists.ensures

pub returns-in-Function : goal.returns-in-Function
returns-in-Function g c =
    rw c.in-Function.is c.function_exists.ensures

pub returns-in-Mixin : goal.returns-in-Mixin
returns-in-Mixin g c =
    rw c.in-Mixin.is c.mixin_exists.ensures
