use Rattle.std.proofs.Common.{drop}
use Rattle.sw_eval_questions.specs.Ran.{Ran}
use Rattle.sw_eval_statements.specs.Parameters.{fill}
use Rattle.sw_eval_questions.specs.Did.{stand}
use Rattle.sw_eval_statements.proofs.includes.fill.Given as goal

abbrev pub invariant-loop-one : goal.invariant-loop-one
invariant-loop-one g l =
    Ran g.W.World.gives (fill (g.B.Below.values l.below) l.params l.slots l.fn.walk.state) (stand l.fn.walk.asked) l.fn.world (fill (g.B.Below.values l.below) l.params (drop l.one-index l.slots) l.walk.state) (stand l.walk.asked) l.world
