use Rattle.std.proofs.Common.{◌≡◌, ◌≤◌, take, length}
use Rattle.sw_eval_literals.specs.Operations.{signed}
use Rattle.sw_eval_literals.proofs.signs.signed.Given as goal

abbrev pub invariant-signs : goal.invariant-signs
invariant-signs l = record {
  left : signed l.signs l.fn.value l.span ≡ signed (take l.left l.signs) l.value l.span;
  few : l.left ≤ length l.signs;
}

abbrev pub decreases-signs : goal.decreases-signs
decreases-signs l = l.left
