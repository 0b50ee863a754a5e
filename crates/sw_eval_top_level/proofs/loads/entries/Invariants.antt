use Rattle.std.proofs.Common.{drop}
use Rattle.sw_eval_questions.specs.Ran.{Ran}
use Rattle.sw_eval_questions.specs.Did.{stand}
use Rattle.sw_eval_top_level.specs.Loading.{entries}
use Rattle.sw_eval_top_level.proofs.loads.entries.Given as goal

abbrev pub invariant-all : goal.invariant-all
invariant-all g l =
    Ran g.W.World.gives (entries (g.B.Below.values l.below) l.passed l.all l.passed l.fn.walk.state) (stand l.fn.walk.asked) l.fn.world (entries (g.B.Below.values l.below) l.passed (drop l.one-index l.all) l.done l.walk.state) (stand l.walk.asked) l.world
