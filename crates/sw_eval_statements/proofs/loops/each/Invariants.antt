use Rattle.std.proofs.Common.{drop}
use Rattle.sw_eval_questions.specs.Ran.{Ran}
use Rattle.sw_eval_statements.specs.Loops.{each}
use Rattle.sw_eval_questions.specs.Did.{stand}
use Rattle.sw_eval_statements.proofs.loops.each.Given as goal

abbrev pub invariant-loop-one : goal.invariant-loop-one
invariant-loop-one g l =
    Ran g.W.World.gives (each (g.B.Below.statements l.below) l.statement l.elements l.fn.walk.state) (stand l.fn.walk.asked) l.fn.world (each (g.B.Below.statements l.below) l.statement (drop l.one-index l.elements) l.walk.state) (stand l.walk.asked) l.world
