use Rattle.sw_convert_heads_passing.proofs.Flow.{flow_heads_are_told}
use Rattle.sw_convert_heads_passing.proofs.Bounds.{bounds_are_told, lone_heads_are_told}
use Rattle.sw_convert_heads_passing.proofs.law.flow_heads_are_told.Goals as goal

pub returns : goal.returns
returns c = record { heads = flow_heads_are_told; bounds = bounds_are_told; alone = lone_heads_are_told }
