use Rattle.std.proofs.Common.{ap, ◌∙◌}
use Rattle.sw_cmd_protocol.specs.Endings.{status_of}
use Rattle.sw_cmd_run.proofs.service.poll_folder.Goals as goal

pub returns-clause-no_source_fault : goal.returns-clause-no_source_fault
returns-clause-no_source_fault g c = λ n. c.polled.ensures.no_source_fault (λ e. n (c.status.ensures ∙ ap status_of e))

pub returns-clause-no_sink_fault : goal.returns-clause-no_sink_fault
returns-clause-no_sink_fault g c = λ n. c.polled.ensures.no_sink_fault (λ e. n (c.status.ensures ∙ ap status_of e))

pub returns-clause-no_disk_fault : goal.returns-clause-no_disk_fault
returns-clause-no_disk_fault g c = λ n. c.polled.ensures.no_disk_fault (λ e. n (c.status.ensures ∙ ap status_of e))
