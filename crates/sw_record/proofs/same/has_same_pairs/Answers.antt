use Rattle.std.proofs.Common.{sym, ◌∙◌, ap}
use Rattle.sw_world.specs.Body.{answers}
use Rattle.sw_record.proofs.Going.{same_runs}
use Rattle.sw_record.proofs.same.has_same_pairs.Goals as goal

pub returns-clause-pairs : goal.returns-clause-pairs
returns-clause-pairs g c =
    let seen = c.seen-seen.ensures.seen in
    let others = c.seen-others.ensures.seen in (
      λ t. (same_runs g.E.Engine.body c.args.run.now c.args.other.now c.seen-seen.ensures.is_kept c.seen-others.ensures.is_kept c.requires (ap answers (sym seen) ∙ c.same_answers.ensures.0 t ∙ ap answers others)).0,
      λ e. c.same_answers.ensures.1 (ap answers seen ∙ ap answers e ∙ ap answers (sym others)),
    )
