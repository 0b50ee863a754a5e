use Rattle.sw_modules.specs.Settings.{hostless}
use Rattle.sw_cmd_workload.specs.Ends.{standing}
use Rattle.sw_cmd_workload.proofs.Going.{Going}
use Rattle.sw_cmd_workload.proofs.making.all_compiles.Given as goal

abbrev pub invariant-turns : goal.invariant-turns
invariant-turns g l =
    Going (hostless g.R.Reader.reads g.E.Engine.body) l.number l.turn g.T.Audience.hears l.tally l.keeper
    (standing (g.E.Engine.ran l.initial.engine) (g.T.Audience.state l.initial.audience))
    (standing (g.E.Engine.ran l.engine) (g.T.Audience.state l.audience))
