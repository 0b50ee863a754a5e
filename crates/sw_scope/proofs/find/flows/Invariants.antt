use Rattle.std.proofs.Common.{◌≡◌, ◌≤◌, length, take}
use Rattle.sw_scope.specs.Cut.{back, flows, StandsLower}
use Rattle.sw_scope.proofs.find.flows.Given as goal

abbrev pub invariant-loop-number : goal.invariant-loop-number
invariant-loop-number l = record {
  within : l.number ≤ length l.marks;
  lower : StandsLower (back (take l.number l.marks));
  rest : flows (length l.marks) (back l.marks) ≡ flows l.number (back (take l.number l.marks));
}

abbrev pub decreases-loop-number : goal.decreases-loop-number
decreases-loop-number l = l.number
