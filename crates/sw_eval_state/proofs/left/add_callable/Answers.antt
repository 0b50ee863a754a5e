use Rattle.std.proofs.Common.{refl}
use Rattle.sw_eval_state.proofs.left.add_callable.Goals as goal

pub returns-in_ok-share-in-Some : goal.returns-in_ok-share-in-Some
returns-in_ok-share-in-Some c =
    rw (← c.in-Some.ensures, ← c.in_ok-share-in-Some.ensures) c.push.ensures.ok

pub returns-in-None : goal.returns-in-None
returns-in-None c = rw (← c.in-None.ensures) refl
