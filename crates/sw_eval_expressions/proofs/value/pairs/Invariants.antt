use Rattle.std.proofs.Common.{[], drop}
use Rattle.sw_eval_questions.specs.Ran.{Ran}
use Rattle.sw_eval_expressions.specs.Expressions.{pairs}
use Rattle.sw_eval_questions.specs.Did.{stand}
use Rattle.sw_eval_expressions.proofs.value.pairs.Given as goal

abbrev pub invariant-loop-one : goal.invariant-loop-one
invariant-loop-one g l =
    Ran g.W.World.gives (pairs (g.B.Below.values l.level.below) l.all [] l.fn.walk.state) (stand l.fn.walk.asked) l.fn.world (pairs (g.B.Below.values l.level.below) (drop l.one-index l.all) l.done l.walk.state) (stand l.walk.asked) l.world
