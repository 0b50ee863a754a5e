use Rattle.std.proofs.Common.{◌≡◌, ◌≤◌, length, take}
use Rattle.sw_scope.specs.Cut.{back, found, IsCut}
use Rattle.sw_scope.specs.Index.{AreIndexed}
use Rattle.sw_scope.proofs.find.seen.Given as goal

abbrev pub invariant-loop-number : goal.invariant-loop-number
invariant-loop-number l = record {
  within : l.number ≤ length l.marks;
  end : l.end ≤ length l.vars;
  cut : IsCut (back (take l.number l.marks)) l.end;
  indexed : AreIndexed (back (take l.number l.marks)) (take l.end l.vars);
  rest : found (length l.marks) (back l.marks) l.vars l.name ≡ found l.number (back (take l.number l.marks)) (take l.end l.vars) l.name;
}

abbrev pub decreases-loop-number : goal.decreases-loop-number
decreases-loop-number l = l.number
