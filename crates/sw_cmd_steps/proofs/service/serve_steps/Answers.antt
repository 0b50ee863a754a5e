use Rattle.std.proofs.Common.{ap, ◌∙◌}
use Rattle.sw_cmd_protocol.specs.Endings.{status_of}
use Rattle.sw_cmd_steps.proofs.service.serve_steps.Goals as goal

pub returns-clause-no_source_fault : goal.returns-clause-no_source_fault
returns-clause-no_source_fault g c = λ n. c.serve_steps_within.ensures.no_source_fault (λ e. n (c.status.ensures ∙ ap status_of e))

pub returns-clause-no_sink_fault : goal.returns-clause-no_sink_fault
returns-clause-no_sink_fault g c = λ n. c.serve_steps_within.ensures.no_sink_fault (λ e. n (c.status.ensures ∙ ap status_of e))
