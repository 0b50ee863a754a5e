use Rattle.std.proofs.Common.{sym, ◌∙◌}
use Rattle.sw_io.specs.declared.stop.ReadStop.TheVariants.{Failed}
use Rattle.sw_io.proofs.Causes.{fine_ok}
use Rattle.sw_cmd_protocol.proofs.Writing.{appends_none}
use Rattle.sw_cmd_protocol.proofs.Fronts.{last_stops, last_line_ends, line_rose, line_fine}
use Rattle.sw_cmd_protocol.proofs.service.Service.last.Goals as goal

pub returns-in-Err-clause-ends : goal.returns-in-Err-clause-ends
returns-in-Err-clause-ends g c =
    λ written. let e = c.in-Err.ensures.err in
    rw c.from.ensures (last_stops g.P.Protocol.rules.grammar _ e.0 _ _ _ _ e.1 (appends_none _) e.2)

pub returns-in-Ok-clause-ends : goal.returns-in-Ok-clause-ends
returns-in-Ok-clause-ends g c =
    λ written. let r = c.in-Ok.ensures.ok in
    last_line_ends g.P.Protocol.rules.grammar c.last.result c.read.new.self.line.items _ _ r.0 (appends_none _) r.1 c.last.ensures

pub returns-in-Err-clause-fault : goal.returns-in-Err-clause-fault
returns-in-Err-clause-fault g c = λ e. line_rose _ _ c.in-Err.stop c.in-Err.ensures.cause (sym c.from.ensures ∙ e)

pub returns-in-Err-clause-no_fault : goal.returns-in-Err-clause-no_fault
returns-in-Err-clause-no_fault g c = λ n. line_fine _ _ c.in-Err.stop c.in-Err.ensures.cause (λ e. n (c.from.ensures ∙ e))

pub returns-in-Ok-clause-no_fault : goal.returns-in-Ok-clause-no_fault
returns-in-Ok-clause-no_fault g c = λ _. fine_ok Failed _ _ _ c.in-Ok.ensures.cause
