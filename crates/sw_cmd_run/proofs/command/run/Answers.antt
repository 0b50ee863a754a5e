use Rattle.std.proofs.Common.{sym, ap, ◌∙◌}
use Rattle.std.specs.Prelude.{option_map}
use Rattle.sw_cmd_line.specs.Forms.{form_of, form_seen, Session, Hosted, Steps, Once, Make, Convert}
use Rattle.sw_cmd_session.specs.Sheets.{functions}
use Rattle.sw_cmd_run.specs.Run.{surroundings}
use Rattle.sw_cmd_run.proofs.Running.{none_runs, some_runs, not_none, same_form, other_form}
use Rattle.sw_cmd_run.proofs.command.run.Goals as goal

pub returns-in-None-clause-runs : goal.returns-in-None-clause-runs
returns-in-None-clause-runs g c =
    let a = c.args.around.now in
    none_runs g.E.Engine.body (functions g.H.Hosts.answer g.H.Hosts.after) g.T.Audience.hears
    (surroundings (g.S.Source.left a.source) (g.K.Sink.written a.output.sink) (g.D.Disk.course a.disk) (g.E.Engine.ran c.args.engine.now) (g.H.Hosts.state a.hosts))
    (g.T.Audience.state a.output.audience) (form_of c.args.words.now) (sym (ap (option_map form_seen) c.in-None.is) ∙ c.command_of.ensures)

pub returns-in-Some-clause-runs : goal.returns-in-Some-clause-runs
returns-in-Some-clause-runs g c =
    let a = c.args.around.now in
    let b = c.carry_out.new.around in
    some_runs (form_of c.args.words.now) (form_seen c.in-Some.command) (sym (ap (option_map form_seen) c.in-Some.is) ∙ c.command_of.ensures) g.E.Engine.body (functions g.H.Hosts.answer g.H.Hosts.after) g.T.Audience.hears c.carry_out.result
    (surroundings (g.S.Source.left a.source) (g.K.Sink.written a.output.sink) (g.D.Disk.course a.disk) (g.E.Engine.ran c.args.engine.now) (g.H.Hosts.state a.hosts))
    (surroundings (g.S.Source.left b.source) (g.K.Sink.written b.output.sink) (g.D.Disk.course b.disk) (g.E.Engine.ran c.carry_out.new.engine) (g.H.Hosts.state b.hosts))
    (g.T.Audience.state a.output.audience) (g.T.Audience.state b.output.audience) c.carry_out.ensures.runs

pub returns-in-Some-clause-no_command : goal.returns-in-Some-clause-no_command
returns-in-Some-clause-no_command g c = λ n. not_none (form_of c.args.words.now) (form_seen c.in-Some.command) (sym (ap (option_map form_seen) c.in-Some.is) ∙ c.command_of.ensures) n

pub returns-in-Some-clause-no_disk : goal.returns-in-Some-clause-no_disk
returns-in-Some-clause-no_disk g c =
    λ n. c.carry_out.ensures.no_disk (same_form (form_of c.args.words.now) (form_seen c.in-Some.command) (sym (ap (option_map form_seen) c.in-Some.is) ∙ c.command_of.ensures) Session n)

pub returns-in-Some-clause-no_disk_hosted : goal.returns-in-Some-clause-no_disk_hosted
returns-in-Some-clause-no_disk_hosted g c =
    λ n. c.carry_out.ensures.no_disk_hosted (same_form (form_of c.args.words.now) (form_seen c.in-Some.command) (sym (ap (option_map form_seen) c.in-Some.is) ∙ c.command_of.ensures) Hosted n)

pub returns-in-Some-clause-no_disk_steps : goal.returns-in-Some-clause-no_disk_steps
returns-in-Some-clause-no_disk_steps g c =
    λ n. c.carry_out.ensures.no_disk_steps (same_form (form_of c.args.words.now) (form_seen c.in-Some.command) (sym (ap (option_map form_seen) c.in-Some.is) ∙ c.command_of.ensures) Steps n)

pub returns-in-Some-clause-no_source : goal.returns-in-Some-clause-no_source
returns-in-Some-clause-no_source g c =
    λ target n. c.carry_out.ensures.no_source target (same_form (form_of c.args.words.now) (form_seen c.in-Some.command) (sym (ap (option_map form_seen) c.in-Some.is) ∙ c.command_of.ensures) (Once target) n)

pub returns-in-Some-clause-no_engine : goal.returns-in-Some-clause-no_engine
returns-in-Some-clause-no_engine g c =
    λ from to n. c.carry_out.ensures.no_engine from to (same_form (form_of c.args.words.now) (form_seen c.in-Some.command) (sym (ap (option_map form_seen) c.in-Some.is) ∙ c.command_of.ensures) (Convert from to) n)

pub returns-in-Some-clause-no_outside : goal.returns-in-Some-clause-no_outside
returns-in-Some-clause-no_outside g c =
    λ number n. c.carry_out.ensures.no_outside number (same_form (form_of c.args.words.now) (form_seen c.in-Some.command) (sym (ap (option_map form_seen) c.in-Some.is) ∙ c.command_of.ensures) (Make number) n)

pub returns-in-Some-clause-no_hosts : goal.returns-in-Some-clause-no_hosts
returns-in-Some-clause-no_hosts g c =
    λ n. c.carry_out.ensures.no_hosts (other_form (form_of c.args.words.now) (form_seen c.in-Some.command) (sym (ap (option_map form_seen) c.in-Some.is) ∙ c.command_of.ensures) Hosted n)
