use Rattle.sw_eval_questions.specs.Ran.{Ran}
use Rattle.sw_eval_statements.specs.Flow.{repeat, repeats}
use Rattle.sw_eval_questions.specs.Did.{stand}
use Rattle.sw_eval_statements.proofs.flow.repeats.Given as goal

abbrev pub invariant-loop-left : goal.invariant-loop-left
invariant-loop-left g l =
    Ran g.W.World.gives (repeats (g.B.Below.values l.below) (g.B.Below.statements l.below) l.statement l.fn.walk.state) (stand l.fn.walk.asked) l.fn.world (repeat (g.B.Below.values l.below) (g.B.Below.statements l.below) l.statement l.left l.walk.state) (stand l.walk.asked) l.world

abbrev pub decreases-loop-left : goal.decreases-loop-left
decreases-loop-left g l = l.left
