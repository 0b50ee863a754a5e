use Rattle.std.proofs.Common.{◌-◌, length}
use Rattle.sw_eval_questions.specs.Did.{stand}
use Rattle.sw_eval_questions.specs.Ran.{Ran}
use Rattle.sw_eval_top_level.specs.Tops.{rest}
use Rattle.sw_eval_top_level.proofs.top.walk_on.Given as goal

abbrev pub invariant-loop-next : goal.invariant-loop-next
invariant-loop-next g l =
    Ran g.W.World.gives (rest (g.B.Below.values l.below) (g.B.Below.statements l.below) l.config l.all l.fn.next l.fn.walk.state) (stand l.fn.walk.asked) l.fn.world (rest (g.B.Below.values l.below) (g.B.Below.statements l.below) l.config l.all l.next l.walk.state) (stand l.walk.asked) l.world

abbrev pub decreases-loop-next : goal.decreases-loop-next
decreases-loop-next g l = length l.all - l.next
