use Rattle.std.proofs.Common.{refl}
use Rattle.sw_scope.proofs.Seen.{look_none, look_some, set_none, set_some, set_cuts}
use Rattle.sw_scope.proofs.Indexes.{set_indexed}
use Rattle.sw_scope.proofs.frames.Frames.set.Goals as goal

pub invariant_of-self : goal.invariant_of-self
invariant_of-self c =
    (set_cuts c.self.inside.marks c.self.inside.vars _ (c.args.name, c.args.value) c.in-Some.at c.self.invariant.0 c.set.ensures, set_indexed c.self.inside.marks c.self.inside.vars _ (c.args.name, c.args.value) c.in-Some.at c.self.invariant.0 c.self.invariant.1 (rw (c.as_slice.ensures, c.as_slice-2.ensures) at c.in-Some.ensures.found) c.set.ensures)

pub returns-in-Some-clause-set : goal.returns-in-Some-clause-set
returns-in-Some-clause-set c =
    set_some c.self.inside.marks c.self.inside.vars _ (c.args.name, c.args.value) _ c.in-Some.at c.self.invariant.0 c.self.view_is (rw (c.as_slice.ensures, c.as_slice-2.ensures) at c.in-Some.ensures.found) c.set.ensures

pub returns-in-Some-clause-seen : goal.returns-in-Some-clause-seen
returns-in-Some-clause-seen c =
    look_some c.self.inside.marks c.self.inside.vars c.args.name _ c.in-Some.at c.self.invariant.0 c.self.view_is (rw (c.as_slice.ensures, c.as_slice-2.ensures) at c.in-Some.ensures.found) (rw c.as_slice-2.ensures at c.in-Some.ensures.within)

pub returns-in-None-clause-set : goal.returns-in-None-clause-set
returns-in-None-clause-set c =
    set_none c.self.inside.marks c.self.inside.vars (c.args.name, c.args.value) _ c.self.invariant.0 c.self.view_is (rw (c.as_slice.ensures, c.as_slice-2.ensures) at c.in-None.ensures.found)

pub returns-in-None-clause-seen : goal.returns-in-None-clause-seen
returns-in-None-clause-seen c = (look_none c.self.inside.marks c.self.inside.vars c.args.name _ c.self.invariant.0 c.self.view_is (rw (c.as_slice.ensures, c.as_slice-2.ensures) at c.in-None.ensures.found), refl, refl)
