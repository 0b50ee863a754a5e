use Rattle.std.proofs.Common.{sym}
use Rattle.sw_scope.proofs.Seen.{look_none, look_here}
use Rattle.sw_scope.proofs.frames.Frames.look.Goals as goal

pub returns-in-Some : goal.returns-in-Some
returns-in-Some c =
    look_here c.self.inside.marks c.self.inside.vars c.as_slice-in-Some.result.now c.args.name.now _ c.in-Some.at _ c.self.invariant.0 c.self.view_is (rw (c.as_slice.ensures, c.as_slice-2.ensures) at c.in-Some.ensures.found) (rw c.as_slice-2.ensures at c.in-Some.ensures.within) c.as_slice-in-Some.ensures

pub returns-in-None : goal.returns-in-None
returns-in-None c = sym (look_none c.self.inside.marks c.self.inside.vars c.args.name.now _ c.self.invariant.0 c.self.view_is (rw (c.as_slice.ensures, c.as_slice-2.ensures) at c.in-None.ensures.found))
