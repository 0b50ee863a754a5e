use Rattle.std.proofs.Common.{sym, ◌∙◌, ap}
use Rattle.sw_scope.specs.Frames.{all_flow}
use Rattle.sw_scope.specs.Stack.{seen}
use Rattle.sw_scope.proofs.Seen.{all_flow_is, lower_marks}
use Rattle.sw_scope.proofs.frames.Frames.all_flow.Goals as goal

pub flows-requires : goal.flows-requires
flows-requires c = rw c.as_slice.ensures (lower_marks c.self.inside.marks _ c.self.invariant.0)

pub returns : goal.returns
returns c = rw (c.as_slice.ensures) at c.flows.ensures ∙ sym (all_flow_is c.self.inside.marks c.self.inside.vars) ∙ ap (λ s. all_flow (seen s)) c.self.view_is
