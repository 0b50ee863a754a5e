use Rattle.std.proofs.Common.{◌∙◌, ap}
use Rattle.sw_world.specs.Body.{answers}
use Rattle.sw_rows_announcer.specs.Turns.{progress, status_of}
use Rattle.sw_rows_announcer.proofs.Engines.{given_law, left_none}
use Rattle.sw_rows_announcer.specs.Announcing.{announces}
use Rattle.sw_rows_announcer.proofs.announcer.AnnouncerEngine.give.Goals as goal

pub returns : goal.returns
returns c =
    let b = c.args.running.now in
    let e = c.give_to.ensures in
    (e.0, e.1, ap progress e.2 ∙ given_law b.job b.pairs b.started (status_of b.place) e.0 c.args.answer (left_none (announces b.job) (answers (progress b).seen) (progress b).left (status_of b.place) e.0 c.requires.is_body.place e.1))
