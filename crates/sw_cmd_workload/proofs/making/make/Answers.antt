use Rattle.sw_modules.specs.Settings.{hostless}
use Rattle.sw_cmd_workload.specs.Ends.{standing}
use Rattle.sw_cmd_workload.proofs.Summing.{sums}
use Rattle.sw_cmd_workload.proofs.making.make.Goals as goal

pub returns-in-Ok-clause-ends : goal.returns-in-Ok-clause-ends
returns-in-Ok-clause-ends g c =
    sums (hostless g.R.Reader.reads g.E.Engine.body) c.args.number g.T.Audience.hears c.in-Ok.tally
    (standing (g.E.Engine.ran c.args.engine.now) (g.T.Audience.state c.args.output.now.audience))
    (standing (g.E.Engine.ran c.all_compiles.new.engine) (g.T.Audience.state c.all_compiles.new.audience))
    (g.K.Sink.written c.args.output.now.sink) (g.K.Sink.written c.write_summary.new.sink) c.in-Ok.ensures.ok c.write_summary.result c.write_summary.ensures.ends
