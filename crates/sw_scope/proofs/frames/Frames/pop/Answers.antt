use Rattle.std.proofs.Common.{sym}
use Rattle.sw_scope.proofs.Seen.{pop_is, pop_cuts, pop_none}
use Rattle.sw_scope.proofs.Indexes.{pop_indexed}
use Rattle.sw_scope.proofs.frames.Frames.pop.Goals as goal

pub invariant_of-self : goal.invariant_of-self
invariant_of-self c =
    let cut_off = rw (sym c.in-Some.ensures.1) at c.truncate.ensures in
    (pop_cuts c.self.inside.marks _ c.in-Some.ensures.0 c.self.inside.vars _ c.self.invariant.0 c.in-Some.ensures.2 cut_off, pop_indexed c.self.inside.marks _ c.in-Some.ensures.0 c.self.inside.vars _ c.self.invariant.1 c.in-Some.ensures.2 cut_off)

pub returns-in-Some : goal.returns-in-Some
returns-in-Some c =
    let cut_off = rw (sym c.in-Some.ensures.1) at c.truncate.ensures in pop_is c.self.inside.marks _ c.in-Some.ensures.0 c.self.inside.vars _ _ c.self.view_is c.in-Some.ensures.2 cut_off

pub returns-in_default : goal.returns-in_default
returns-in_default c = pop_none c.self.inside.marks _ c.self.inside.vars _ c.self.view_is c.in_default.ensures.0 c.in_default.ensures.1
