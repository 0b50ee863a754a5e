use Rattle.sw_modules.specs.Settings.{hostless}
use Rattle.sw_step_bodies.proofs.Reaching.{asking_on, known_on, running_on}
use Rattle.sw_step_bodies.proofs.outside.go_on.Goals as goal

pub returns-in-Ok-Load-clause-on : goal.returns-in-Ok-Load-clause-on
returns-in-Ok-Load-clause-on g c =
    asking_on (hostless g.R.Reader.reads g.E.Engine.body) g.E.Engine.progress c.args.work.now c.args.body c.go_outside.new.body c.args.live.now c.go_outside.new.live c.requires c.go_outside.ensures.went
    c.in-Ok-Load.op c.in-Ok-Load.ensures.stopped.1

pub returns-in-Ok-Ended-clause-on : goal.returns-in-Ok-Ended-clause-on
returns-in-Ok-Ended-clause-on g c =
    known_on (hostless g.R.Reader.reads g.E.Engine.body) g.E.Engine.progress c.args.work.now c.args.body c.go_outside.new.body c.args.live.now c.go_outside.new.live c.requires c.go_outside.ensures.went
    c.close.result c.close.ensures c.in-Ok-Ended.ensures.stopped.1

pub returns-in-Err-clause-on : goal.returns-in-Err-clause-on
returns-in-Err-clause-on g c =
    running_on (hostless g.R.Reader.reads g.E.Engine.body) g.E.Engine.progress c.args.work.now c.args.body c.go_outside.new.body c.args.live.now c.go_outside.new.live c.requires c.go_outside.ensures.went
