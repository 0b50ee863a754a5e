use Rattle.std.proofs.Common.{sym, ◌∙◌, ap, length}
use Rattle.sw_scope.proofs.Cuts.{length-frames}
use Rattle.sw_scope.proofs.frames.Frames.len.Goals as goal

pub returns : goal.returns
returns c = c.len.ensures ∙ sym (length-frames _ _) ∙ ap length c.self.view_is
