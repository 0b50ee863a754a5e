use Rattle.std.proofs.Common.{drop}
use Rattle.sw_eval_questions.specs.Ran.{Ran}
use Rattle.sw_eval_walk.specs.Arguments.{arguments}
use Rattle.sw_eval_questions.specs.Did.{stand}
use Rattle.sw_scope.specs.Passed.{none_passed}
use Rattle.sw_eval_walk.proofs.arguments.arguments_of.Given as goal

abbrev pub invariant-loop-one : goal.invariant-loop-one
invariant-loop-one g l =
    Ran g.W.World.gives (arguments (g.B.Below.values l.level.below) l.level.parens l.all none_passed l.fn.walk.state) (stand l.fn.walk.asked) l.fn.world (arguments (g.B.Below.values l.level.below) l.level.parens (drop l.one-index l.all) l.done l.walk.state) (stand l.walk.asked) l.world
