use Rattle.std.proofs.Common.{drop}
use Rattle.sw_eval_questions.specs.Ran.{Ran}
use Rattle.sw_eval_expressions.specs.Expressions.{links}
use Rattle.sw_eval_questions.specs.Did.{stand}
use Rattle.sw_eval_expressions.proofs.value.links.Given as goal

abbrev pub invariant-loop-one : goal.invariant-loop-one
invariant-loop-one g l =
    Ran g.W.World.gives (links (g.B.Below.values l.level.below) l.level.parens l.all l.fn.left l.span l.fn.walk.state) (stand l.fn.walk.asked) l.fn.world (links (g.B.Below.values l.level.below) l.level.parens (drop l.one-index l.all) l.left l.span l.walk.state) (stand l.walk.asked) l.world
