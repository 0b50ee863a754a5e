use Rattle.std.proofs.Common.{◌≡◌, ◌++◌, drop}
use Rattle.sw_selector.proofs.splice.push_parts.Given as goal

abbrev pub invariant-parts : goal.invariant-parts
invariant-parts l = l.out ++ drop l.part-index l.parts ≡ l.initial.out ++ l.parts
