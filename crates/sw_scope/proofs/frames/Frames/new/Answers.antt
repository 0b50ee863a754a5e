use Rattle.std.proofs.Common.{refl}
use Rattle.sw_scope.specs.Cut.{frames}
use Rattle.sw_scope.proofs.frames.Frames.new.Goals as goal

pub returns : goal.returns
unfolding frames
returns c = rw (c.new.ensures, c.new-2.ensures) refl
