use Rattle.std.proofs.Common.{[], drop}
use Rattle.sw_eval_questions.specs.Ran.{Ran}
use Rattle.sw_eval_walk.specs.Arguments.{argument_values}
use Rattle.sw_eval_questions.specs.Did.{stand}
use Rattle.sw_eval_walk.proofs.arguments.argument_values.Given as goal

abbrev pub invariant-loop-one : goal.invariant-loop-one
invariant-loop-one g l =
    Ran g.W.World.gives (argument_values (g.B.Below.values l.level.below) l.level.parens l.all [] l.fn.walk.state) (stand l.fn.walk.asked) l.fn.world (argument_values (g.B.Below.values l.level.below) l.level.parens (drop l.one-index l.all) l.done l.walk.state) (stand l.walk.asked) l.world
