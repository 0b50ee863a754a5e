use Rattle.std.proofs.Common.{◌-◌}
use Rattle.sw_eval_questions.specs.Ran.{Ran}
use Rattle.sw_eval_statements.specs.Loops.{count, counts}
use Rattle.sw_eval_questions.specs.Did.{stand}
use Rattle.sw_eval_statements.proofs.loops.counts.Given as goal

abbrev pub invariant-loop-turn : goal.invariant-loop-turn
invariant-loop-turn g l =
    Ran g.W.World.gives (counts (g.B.Below.statements l.below) l.statement l.numbers l.fn.walk.state) (stand l.fn.walk.asked) l.fn.world (count (g.B.Below.statements l.below) l.statement l.numbers l.turn (l.tests - l.turn) l.walk.state) (stand l.walk.asked) l.world

abbrev pub decreases-loop-turn : goal.decreases-loop-turn
decreases-loop-turn g l = l.tests - l.turn
