use Rattle.std.proofs.Common.{◌∙◌}
use Rattle.sw_scope.proofs.Indexes.{in_frame}
use Rattle.sw_scope.proofs.find.place_in.Goals as goal

pub returns-in-Some-clause-within : goal.returns-in-Some-clause-within
returns-in-Some-clause-within c =
    in_frame _ c.args.vars.now c.args.mark.now.start c.args.end c.args.name.now c.requires.start c.requires.end (c.get.ensures ∙ (rw c.in-Some.is at c.requires.indexed) c.args.name.now)
