use Rattle.std.proofs.Common.{◌∙◌}
use Rattle.sw_scope.proofs.Seen.{declare_is, declare_cuts}
use Rattle.sw_scope.proofs.Indexes.{pushed, grown_cut, grown_indexed}
use Rattle.sw_scope.proofs.frames.Frames.declare.Goals as goal

pub note-requires-clause-cut : goal.note-requires-clause-cut
note-requires-clause-cut c = rw c.as_slice-then-is_noted.ensures (grown_cut c.self.inside.marks c.self.inside.vars _ _ c.self.invariant.0 c.in_ok-push.ensures.ok)

pub note-requires-clause-indexed : goal.note-requires-clause-indexed
note-requires-clause-indexed c = rw c.as_slice-then-is_noted.ensures (grown_indexed c.self.inside.marks c.self.inside.vars _ _ c.self.invariant.1 c.in_ok-push.ensures.ok)

pub invariant_of-self-then-is_noted : goal.invariant_of-self-then-is_noted
invariant_of-self-then-is_noted c =
    (c.note.ensures.cut _ (declare_cuts c.self.inside.marks c.self.inside.vars _ _ c.self.invariant.0 c.in_ok-push.ensures.ok), rw c.as_slice-then-is_noted.ensures at c.note.ensures.indexed)

pub invariant_of-self-else-is_noted : goal.invariant_of-self-else-is_noted
invariant_of-self-else-is_noted c =
    let none = rw c.as_slice.ensures at (c.is_noted.ensures c.if-is_noted.false) in
    (declare_cuts c.self.inside.marks c.self.inside.vars _ _ c.self.invariant.0 c.in_ok-push.ensures.ok, rw c.in_ok-push.ensures.ok (pushed _ c.self.inside.vars _ none c.self.invariant.0 c.self.invariant.1))

pub returns-then-is_noted-clause-ok : goal.returns-then-is_noted-clause-ok
returns-then-is_noted-clause-ok c = c.note.ensures.frames _ ∙ declare_is c.self.inside.marks c.self.inside.vars _ _ _ c.self.invariant.0 c.self.view_is c.in_ok-push.ensures.ok

pub returns-else-is_noted-clause-ok : goal.returns-else-is_noted-clause-ok
returns-else-is_noted-clause-ok c = declare_is c.self.inside.marks c.self.inside.vars _ _ _ c.self.invariant.0 c.self.view_is c.in_ok-push.ensures.ok
