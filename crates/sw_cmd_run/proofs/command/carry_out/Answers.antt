use Rattle.std.proofs.Common.{◌≡◌, [], refl, sym, ap, ◌∙◌}
use Rattle.sw_cmd_session.specs.Sheets.{functions, hosted, hostless}
use Rattle.sw_cmd_session.specs.Served as session
use Rattle.sw_cmd_line.specs.declared.command.Command.TheVariants as code
use Rattle.sw_cmd_line.specs.Forms.{form_seen, Session, Hosted, Steps, Once, Poll, Make, Convert, target_seen}
use Rattle.sw_cmd_disk_compile.specs.Once.{status_of}
use Rattle.sw_cmd_workload.specs.Ends.{status_of as status_of_made}
use Rattle.sw_cmd_convert.specs.Ends.{status_of as status_of_converted}
use Rattle.sw_cmd_run.specs.Run.{surroundings}
use Rattle.sw_cmd_run.proofs.Running.{runs_as, form_as}
use Rattle.sw_cmd_run.proofs.Statuses.{no_outside, of_sink, of_disk, not_source, of_made_sink, made_not_source, made_not_disk, of_converted_source, of_converted_sink, converted_not_disk}
use Rattle.sw_cmd_run.proofs.command.carry_out.Goals as goal

pub returns-in-Session-clause-runs : goal.returns-in-Session-clause-runs
returns-in-Session-clause-runs g c =
    let a = c.args.around.now in
    runs_as g.E.Engine.body (functions g.H.Hosts.answer g.H.Hosts.after) g.T.Audience.hears c.serve.result
    (surroundings (g.S.Source.left a.source) (g.K.Sink.written a.output.sink) (g.D.Disk.course a.disk) (g.E.Engine.ran c.args.engine.now) (g.H.Hosts.state a.hosts))
    (surroundings (g.S.Source.left c.serve.new.source) (g.K.Sink.written c.serve.new.output.sink) (g.D.Disk.course a.disk) (g.E.Engine.ran c.serve.new.engine) (g.H.Hosts.state a.hosts))
    (g.T.Audience.state a.output.audience) (g.T.Audience.state c.serve.new.output.audience) c.args.command code.Session c.in-Session.is
    (record { served = c.serve.ensures.served; course = refl; hosts = refl })

pub returns-in-Session-clause-no_source : goal.returns-in-Session-clause-no_source
returns-in-Session-clause-no_source g c = λ target n. let bad : Session ≡ (Once target) = form_as c.args.command code.Session (Once target) c.in-Session.is n in cc

pub returns-in-Session-clause-no_outside : goal.returns-in-Session-clause-no_outside
returns-in-Session-clause-no_outside g c = λ number n. let bad : Session ≡ (Make number) = form_as c.args.command code.Session (Make number) c.in-Session.is n in cc

pub returns-in-Session-clause-disk_fault : goal.returns-in-Session-clause-disk_fault
returns-in-Session-clause-disk_fault g c =
    let a = c.args.around.now in
    λ e. absurd (no_outside (hostless g.E.Engine.body) g.T.Audience.hears c.serve.result
    (session.surroundings (g.S.Source.left a.source) (g.K.Sink.written a.output.sink) (g.E.Engine.ran c.args.engine.now) [])
    (session.surroundings (g.S.Source.left c.serve.new.source) (g.K.Sink.written c.serve.new.output.sink) (g.E.Engine.ran c.serve.new.engine) [])
    (g.T.Audience.state a.output.audience) (g.T.Audience.state c.serve.new.output.audience) c.serve.ensures.served e)

pub returns-in-Hosted-clause-runs : goal.returns-in-Hosted-clause-runs
returns-in-Hosted-clause-runs g c =
    let a = c.args.around.now in
    runs_as g.E.Engine.body (functions g.H.Hosts.answer g.H.Hosts.after) g.T.Audience.hears c.serve-in-Hosted.result
    (surroundings (g.S.Source.left a.source) (g.K.Sink.written a.output.sink) (g.D.Disk.course a.disk) (g.E.Engine.ran c.args.engine.now) (g.H.Hosts.state a.hosts))
    (surroundings (g.S.Source.left c.serve-in-Hosted.new.source) (g.K.Sink.written c.serve-in-Hosted.new.output.sink) (g.D.Disk.course a.disk) (g.E.Engine.ran c.serve-in-Hosted.new.engine) (g.H.Hosts.state c.serve-in-Hosted.new.hosts))
    (g.T.Audience.state a.output.audience) (g.T.Audience.state c.serve-in-Hosted.new.output.audience) c.args.command code.Hosted c.in-Hosted.is
    (record { served = c.serve-in-Hosted.ensures.served; course = refl })

pub returns-in-Hosted-clause-no_source : goal.returns-in-Hosted-clause-no_source
returns-in-Hosted-clause-no_source g c = λ target n. let bad : Hosted ≡ (Once target) = form_as c.args.command code.Hosted (Once target) c.in-Hosted.is n in cc

pub returns-in-Hosted-clause-no_outside : goal.returns-in-Hosted-clause-no_outside
returns-in-Hosted-clause-no_outside g c = λ number n. let bad : Hosted ≡ (Make number) = form_as c.args.command code.Hosted (Make number) c.in-Hosted.is n in cc

pub returns-in-Hosted-clause-no_hosts : goal.returns-in-Hosted-clause-no_hosts
returns-in-Hosted-clause-no_hosts g c = λ n. absurd (n (ap form_seen c.in-Hosted.is))

pub returns-in-Hosted-clause-disk_fault : goal.returns-in-Hosted-clause-disk_fault
returns-in-Hosted-clause-disk_fault g c =
    let a = c.args.around.now in
    λ e. absurd (no_outside (hosted g.E.Engine.body (functions g.H.Hosts.answer g.H.Hosts.after)) g.T.Audience.hears c.serve-in-Hosted.result
    (session.surroundings (g.S.Source.left a.source) (g.K.Sink.written a.output.sink) (g.E.Engine.ran c.args.engine.now) (g.H.Hosts.state a.hosts))
    (session.surroundings (g.S.Source.left c.serve-in-Hosted.new.source) (g.K.Sink.written c.serve-in-Hosted.new.output.sink) (g.E.Engine.ran c.serve-in-Hosted.new.engine) (g.H.Hosts.state c.serve-in-Hosted.new.hosts))
    (g.T.Audience.state a.output.audience) (g.T.Audience.state c.serve-in-Hosted.new.output.audience) c.serve-in-Hosted.ensures.served e)

pub returns-in-Steps-clause-runs : goal.returns-in-Steps-clause-runs
returns-in-Steps-clause-runs g c =
    let a = c.args.around.now in
    runs_as g.E.Engine.body (functions g.H.Hosts.answer g.H.Hosts.after) g.T.Audience.hears c.serve_steps.result
    (surroundings (g.S.Source.left a.source) (g.K.Sink.written a.output.sink) (g.D.Disk.course a.disk) (g.E.Engine.ran c.args.engine.now) (g.H.Hosts.state a.hosts))
    (surroundings (g.S.Source.left c.serve_steps.new.source) (g.K.Sink.written c.serve_steps.new.output.sink) (g.D.Disk.course a.disk) (g.E.Engine.ran c.serve_steps.new.engine) (g.H.Hosts.state a.hosts))
    (g.T.Audience.state a.output.audience) (g.T.Audience.state c.serve_steps.new.output.audience) c.args.command code.Steps c.in-Steps.is
    (record { served = c.serve_steps.ensures.served; unheard = c.serve_steps.ensures.unheard; course = refl; hosts = refl })

pub returns-in-Steps-clause-no_source : goal.returns-in-Steps-clause-no_source
returns-in-Steps-clause-no_source g c = λ target n. let bad : Steps ≡ (Once target) = form_as c.args.command code.Steps (Once target) c.in-Steps.is n in cc

pub returns-in-Steps-clause-no_outside : goal.returns-in-Steps-clause-no_outside
returns-in-Steps-clause-no_outside g c = λ number n. let bad : Steps ≡ (Make number) = form_as c.args.command code.Steps (Make number) c.in-Steps.is n in cc

pub returns-in-Steps-clause-disk_fault : goal.returns-in-Steps-clause-disk_fault
returns-in-Steps-clause-disk_fault g c = λ e. absurd (c.serve_steps.ensures.no_outside_fault e)

pub returns-in-Once-clause-no_disk_steps : goal.returns-in-Once-clause-no_disk_steps
returns-in-Once-clause-no_disk_steps g c = λ n. let bad : Once (target_seen c.in-Once.target) ≡ Steps = form_as c.args.command (code.Once c.in-Once.target) Steps c.in-Once.is n in cc

pub returns-in-Poll-clause-no_disk_steps : goal.returns-in-Poll-clause-no_disk_steps
returns-in-Poll-clause-no_disk_steps g c = λ n. let bad : Poll (target_seen c.in-Poll.target) ≡ Steps = form_as c.args.command (code.Poll c.in-Poll.target) Steps c.in-Poll.is n in cc

pub returns-in-Once-clause-runs : goal.returns-in-Once-clause-runs
returns-in-Once-clause-runs g c =
    let a = c.args.around.now in
    runs_as g.E.Engine.body (functions g.H.Hosts.answer g.H.Hosts.after) g.T.Audience.hears c.status.result
    (surroundings (g.S.Source.left a.source) (g.K.Sink.written a.output.sink) (g.D.Disk.course a.disk) (g.E.Engine.ran c.args.engine.now) (g.H.Hosts.state a.hosts))
    (surroundings (g.S.Source.left a.source) (g.K.Sink.written c.once.new.output.sink) (g.D.Disk.course c.once.new.disk) (g.E.Engine.ran c.once.new.engine) (g.H.Hosts.state a.hosts))
    (g.T.Audience.state a.output.audience) (g.T.Audience.state c.once.new.output.audience) c.args.command (code.Once c.in-Once.target) c.in-Once.is
    (record { ending = c.once.result; ends = c.once.ensures.ends; tells = c.status.ensures; left = refl; hosts = refl })

pub returns-in-Once-clause-no_disk : goal.returns-in-Once-clause-no_disk
returns-in-Once-clause-no_disk g c = λ n. let bad : Once (target_seen c.in-Once.target) ≡ Session = form_as c.args.command (code.Once c.in-Once.target) Session c.in-Once.is n in cc

pub returns-in-Once-clause-no_disk_hosted : goal.returns-in-Once-clause-no_disk_hosted
returns-in-Once-clause-no_disk_hosted g c = λ n. let bad : Once (target_seen c.in-Once.target) ≡ Hosted = form_as c.args.command (code.Once c.in-Once.target) Hosted c.in-Once.is n in cc

pub returns-in-Once-clause-no_outside : goal.returns-in-Once-clause-no_outside
returns-in-Once-clause-no_outside g c = λ number n. let bad : Once (target_seen c.in-Once.target) ≡ (Make number) = form_as c.args.command (code.Once c.in-Once.target) (Make number) c.in-Once.is n in cc

pub returns-in-Once-clause-source_fault : goal.returns-in-Once-clause-source_fault
returns-in-Once-clause-source_fault g c = λ e. absurd (not_source c.once.result (sym c.status.ensures ∙ e))

pub returns-in-Once-clause-sink_fault : goal.returns-in-Once-clause-sink_fault
returns-in-Once-clause-sink_fault g c = λ e. c.once.ensures.sink_fault (of_sink c.once.result (sym c.status.ensures ∙ e))

pub returns-in-Once-clause-disk_fault : goal.returns-in-Once-clause-disk_fault
returns-in-Once-clause-disk_fault g c = λ e. c.once.ensures.disk_fault (of_disk c.once.result (sym c.status.ensures ∙ e))

pub returns-in-Once-clause-no_sink_fault : goal.returns-in-Once-clause-no_sink_fault
returns-in-Once-clause-no_sink_fault g c = λ n. c.once.ensures.no_sink_fault (λ e. n (c.status.ensures ∙ ap status_of e))

pub returns-in-Once-clause-no_disk_fault : goal.returns-in-Once-clause-no_disk_fault
returns-in-Once-clause-no_disk_fault g c = λ n. c.once.ensures.no_disk_fault (λ e. n (c.status.ensures ∙ ap status_of e))

pub returns-in-Poll-clause-runs : goal.returns-in-Poll-clause-runs
returns-in-Poll-clause-runs g c =
    let a = c.args.around.now in
    runs_as g.E.Engine.body (functions g.H.Hosts.answer g.H.Hosts.after) g.T.Audience.hears c.poll_folder.result
    (surroundings (g.S.Source.left a.source) (g.K.Sink.written a.output.sink) (g.D.Disk.course a.disk) (g.E.Engine.ran c.args.engine.now) (g.H.Hosts.state a.hosts))
    (surroundings (g.S.Source.left c.poll_folder.new.source) (g.K.Sink.written c.poll_folder.new.output.sink) (g.D.Disk.course c.poll_folder.new.disk) (g.E.Engine.ran c.poll_folder.new.engine) (g.H.Hosts.state a.hosts))
    (g.T.Audience.state a.output.audience) (g.T.Audience.state c.poll_folder.new.output.audience) c.args.command (code.Poll c.in-Poll.target) c.in-Poll.is
    (record { served = c.poll_folder.ensures.served; hosts = refl })

pub returns-in-Poll-clause-no_disk : goal.returns-in-Poll-clause-no_disk
returns-in-Poll-clause-no_disk g c = λ n. let bad : Poll (target_seen c.in-Poll.target) ≡ Session = form_as c.args.command (code.Poll c.in-Poll.target) Session c.in-Poll.is n in cc

pub returns-in-Poll-clause-no_disk_hosted : goal.returns-in-Poll-clause-no_disk_hosted
returns-in-Poll-clause-no_disk_hosted g c = λ n. let bad : Poll (target_seen c.in-Poll.target) ≡ Hosted = form_as c.args.command (code.Poll c.in-Poll.target) Hosted c.in-Poll.is n in cc

pub returns-in-Poll-clause-no_source : goal.returns-in-Poll-clause-no_source
returns-in-Poll-clause-no_source g c = λ target n. let bad : Poll (target_seen c.in-Poll.target) ≡ (Once target) = form_as c.args.command (code.Poll c.in-Poll.target) (Once target) c.in-Poll.is n in cc

pub returns-in-Poll-clause-no_outside : goal.returns-in-Poll-clause-no_outside
returns-in-Poll-clause-no_outside g c = λ number n. let bad : Poll (target_seen c.in-Poll.target) ≡ (Make number) = form_as c.args.command (code.Poll c.in-Poll.target) (Make number) c.in-Poll.is n in cc

pub returns-in-Make-clause-runs : goal.returns-in-Make-clause-runs
returns-in-Make-clause-runs g c =
    let a = c.args.around.now in
    runs_as g.E.Engine.body (functions g.H.Hosts.answer g.H.Hosts.after) g.T.Audience.hears c.status-in-Make.result
    (surroundings (g.S.Source.left a.source) (g.K.Sink.written a.output.sink) (g.D.Disk.course a.disk) (g.E.Engine.ran c.args.engine.now) (g.H.Hosts.state a.hosts))
    (surroundings (g.S.Source.left a.source) (g.K.Sink.written c.make.new.output.sink) (g.D.Disk.course a.disk) (g.E.Engine.ran c.make.new.engine) (g.H.Hosts.state a.hosts))
    (g.T.Audience.state a.output.audience) (g.T.Audience.state c.make.new.output.audience) c.args.command (code.Make c.in-Make.number) c.in-Make.is
    (record { ending = c.make.result; ends = c.make.ensures.ends; tells = c.status-in-Make.ensures; left = refl; course = refl; hosts = refl })

pub returns-in-Make-clause-source_fault : goal.returns-in-Make-clause-source_fault
returns-in-Make-clause-source_fault g c = λ e. absurd (made_not_source c.make.result (sym c.status-in-Make.ensures ∙ e))

pub returns-in-Make-clause-sink_fault : goal.returns-in-Make-clause-sink_fault
returns-in-Make-clause-sink_fault g c = λ e. c.make.ensures.sink_fault (of_made_sink c.make.result (sym c.status-in-Make.ensures ∙ e))

pub returns-in-Make-clause-disk_fault : goal.returns-in-Make-clause-disk_fault
returns-in-Make-clause-disk_fault g c = λ e. absurd (made_not_disk c.make.result (sym c.status-in-Make.ensures ∙ e))

pub returns-in-Make-clause-no_sink_fault : goal.returns-in-Make-clause-no_sink_fault
returns-in-Make-clause-no_sink_fault g c = λ n. c.make.ensures.no_sink_fault (λ e. n (c.status-in-Make.ensures ∙ ap status_of_made e))

pub returns-in-Session-clause-no_engine : goal.returns-in-Session-clause-no_engine
returns-in-Session-clause-no_engine g c = λ from to n. let bad : Session ≡ (Convert from to) = form_as c.args.command code.Session (Convert from to) c.in-Session.is n in cc

pub returns-in-Hosted-clause-no_engine : goal.returns-in-Hosted-clause-no_engine
returns-in-Hosted-clause-no_engine g c = λ from to n. let bad : Hosted ≡ (Convert from to) = form_as c.args.command code.Hosted (Convert from to) c.in-Hosted.is n in cc

pub returns-in-Steps-clause-no_engine : goal.returns-in-Steps-clause-no_engine
returns-in-Steps-clause-no_engine g c = λ from to n. let bad : Steps ≡ (Convert from to) = form_as c.args.command code.Steps (Convert from to) c.in-Steps.is n in cc

pub returns-in-Once-clause-no_engine : goal.returns-in-Once-clause-no_engine
returns-in-Once-clause-no_engine g c = λ from to n. let bad : Once (target_seen c.in-Once.target) ≡ (Convert from to) = form_as c.args.command (code.Once c.in-Once.target) (Convert from to) c.in-Once.is n in cc

pub returns-in-Poll-clause-no_engine : goal.returns-in-Poll-clause-no_engine
returns-in-Poll-clause-no_engine g c = λ from to n. let bad : Poll (target_seen c.in-Poll.target) ≡ (Convert from to) = form_as c.args.command (code.Poll c.in-Poll.target) (Convert from to) c.in-Poll.is n in cc

pub returns-in-Make-clause-no_engine : goal.returns-in-Make-clause-no_engine
returns-in-Make-clause-no_engine g c = λ from to n. let bad : Make c.in-Make.number ≡ (Convert from to) = form_as c.args.command (code.Make c.in-Make.number) (Convert from to) c.in-Make.is n in cc

pub returns-in-Convert-clause-runs : goal.returns-in-Convert-clause-runs
returns-in-Convert-clause-runs g c =
    let a = c.args.around.now in
    runs_as g.E.Engine.body (functions g.H.Hosts.answer g.H.Hosts.after) g.T.Audience.hears c.status-in-Convert.result
    (surroundings (g.S.Source.left a.source) (g.K.Sink.written a.output.sink) (g.D.Disk.course a.disk) (g.E.Engine.ran c.args.engine.now) (g.H.Hosts.state a.hosts))
    (surroundings (g.S.Source.left c.convert.new.source) (g.K.Sink.written c.convert.new.sink) (g.D.Disk.course a.disk) (g.E.Engine.ran c.args.engine.now) (g.H.Hosts.state a.hosts))
    (g.T.Audience.state a.output.audience) (g.T.Audience.state a.output.audience) c.args.command (code.Convert c.in-Convert.conversion) c.in-Convert.is
    (record { ending = c.convert.result; ends = c.convert.ensures.ends; tells = c.status-in-Convert.ensures; unheard = refl; course = refl; ran = refl; hosts = refl })

pub returns-in-Convert-clause-no_source : goal.returns-in-Convert-clause-no_source
returns-in-Convert-clause-no_source g c = λ target n. let bad : Convert c.in-Convert.conversion.from c.in-Convert.conversion.to ≡ (Once target) = form_as c.args.command (code.Convert c.in-Convert.conversion) (Once target) c.in-Convert.is n in cc

pub returns-in-Convert-clause-no_outside : goal.returns-in-Convert-clause-no_outside
returns-in-Convert-clause-no_outside g c = λ number n. let bad : Convert c.in-Convert.conversion.from c.in-Convert.conversion.to ≡ (Make number) = form_as c.args.command (code.Convert c.in-Convert.conversion) (Make number) c.in-Convert.is n in cc

pub returns-in-Convert-clause-source_fault : goal.returns-in-Convert-clause-source_fault
returns-in-Convert-clause-source_fault g c = λ e. c.convert.ensures.source_fault (of_converted_source c.convert.result (sym c.status-in-Convert.ensures ∙ e))

pub returns-in-Convert-clause-sink_fault : goal.returns-in-Convert-clause-sink_fault
returns-in-Convert-clause-sink_fault g c = λ e. c.convert.ensures.sink_fault (of_converted_sink c.convert.result (sym c.status-in-Convert.ensures ∙ e))

pub returns-in-Convert-clause-disk_fault : goal.returns-in-Convert-clause-disk_fault
returns-in-Convert-clause-disk_fault g c = λ e. absurd (converted_not_disk c.convert.result (sym c.status-in-Convert.ensures ∙ e))

pub returns-in-Convert-clause-no_source_fault : goal.returns-in-Convert-clause-no_source_fault
returns-in-Convert-clause-no_source_fault g c = λ n. c.convert.ensures.no_source_fault (λ e. n (c.status-in-Convert.ensures ∙ ap status_of_converted e))

pub returns-in-Convert-clause-no_sink_fault : goal.returns-in-Convert-clause-no_sink_fault
returns-in-Convert-clause-no_sink_fault g c = λ n. c.convert.ensures.no_sink_fault (λ e. n (c.status-in-Convert.ensures ∙ ap status_of_converted e))
