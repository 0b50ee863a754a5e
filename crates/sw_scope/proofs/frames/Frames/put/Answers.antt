use Rattle.sw_scope.proofs.Seen.{on_ok, on_both, put_is, put_cuts, same_marks}
use Rattle.std.proofs.Common.{refl}
use Rattle.sw_scope.proofs.Indexes.{put_indexed, same_indexed}
use Rattle.sw_scope.proofs.frames.Frames.put.Goals as goal

pub invariant_of-self : goal.invariant_of-self
invariant_of-self c =
    on_both c.push.result (rw c.len-start.ensures at c.push.ensures.ok) c.push.ensures.err (λ e. (put_cuts c.self.inside.marks _ c.self.inside.vars c.lower-below.result c.args.kind c.self.invariant.0 (rw c.len.ensures at c.lower-below.ensures.within) e, put_indexed c.self.inside.marks _ _ c.self.inside.vars refl refl c.self.invariant.1 e))
    (λ e. (same_marks c.self.inside.marks _ c.self.inside.vars c.self.invariant.0 e, same_indexed c.self.inside.marks _ c.self.inside.vars c.self.invariant.1 e))

pub returns-clause-ok : goal.returns-clause-ok
returns-clause-ok c = on_ok c.push.result (rw c.len-start.ensures at c.push.ensures.ok) (λ e. put_is c.self.inside.marks _ c.self.inside.vars c.args.number c.lower-below.result c.args.kind _ c.self.view_is e (rw c.len.ensures at c.lower-below.ensures.lower))
