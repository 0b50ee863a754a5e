use Rattle.sw_rows_announcer.specs.Announcing.{announces}
use Rattle.sw_rows_announcer.proofs.Engines.{went_law, body_law, at_stop}
use Rattle.sw_rows_announcer.proofs.announcer.AnnouncerEngine.go.Goals as goal

pub returns-in_err-turn-clause-went : goal.returns-in_err-turn-clause-went
returns-in_err-turn-clause-went g c =
    let b = c.args.running.now in rw (c.go_on.ensures.job.0, c.go_on.ensures.job.1) (went_law announces g.W.World.gives b.job b.pairs c.go_on.new.b.pairs b.started _ _ _ _ c.go_on.ensures.did)

pub returns-in_err-turn-clause-is_body : goal.returns-in_err-turn-clause-is_body
returns-in_err-turn-clause-is_body g c =
    let b = c.args.running.now in rw (c.go_on.ensures.job.0, c.go_on.ensures.job.1, c.in_err-turn.ensures.running) (body_law announces g.W.World.gives b.job b.pairs c.go_on.new.b.pairs b.started _ _ _ c.go_on.ensures.did c.requires.is_body.goes tt)

pub returns-clause-went : goal.returns-clause-went
returns-clause-went g c =
    let b = c.args.running.now in rw (c.go_on.ensures.job.0, c.go_on.ensures.job.1) (went_law announces g.W.World.gives b.job b.pairs c.go_on.new.b.pairs b.started _ _ _ _ c.go_on.ensures.did)

pub returns-clause-is_body : goal.returns-clause-is_body
returns-clause-is_body g c =
    let b = c.args.running.now in rw (c.go_on.ensures.job.0, c.go_on.ensures.job.1, c.in_ok-turn.ensures.stopped) (body_law announces g.W.World.gives b.job b.pairs c.go_on.new.b.pairs b.started _ _ _ c.go_on.ensures.did c.requires.is_body.goes (at_stop (announces b.job) c.go_on.new.b.pairs c.in_ok-turn.turn c.in_ok-turn.ensures.step))
