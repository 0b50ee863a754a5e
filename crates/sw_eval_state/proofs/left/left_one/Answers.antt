use Rattle.sw_eval_state.specs.Left.{added}
use Rattle.sw_eval_state.proofs.left.left_one.Goals as goal

pub returns : goal.returns
unfolding added
returns c =
    rw (← c.look_top-own.ensures, ← c.in_ok-value.ensures, ← c.in_ok-name.ensures) c.add.ensures.ok
