use Rattle.std.proofs.Common.{drop}
use Rattle.sw_eval_questions.specs.Ran.{Ran}
use Rattle.sw_eval_statements.specs.Flow.{branches}
use Rattle.sw_eval_questions.specs.Did.{stand}
use Rattle.sw_eval_statements.proofs.flow.branches.Given as goal

abbrev pub invariant-loop-one : goal.invariant-loop-one
invariant-loop-one g l =
    Ran g.W.World.gives (branches (g.B.Below.values l.below) (g.B.Below.statements l.below) l.otherwise l.all l.fn.walk.state) (stand l.fn.walk.asked) l.fn.world (branches (g.B.Below.values l.below) (g.B.Below.statements l.below) l.otherwise (drop l.one-index l.all) l.walk.state) (stand l.walk.asked) l.world
