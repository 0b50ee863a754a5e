use Rattle.std.proofs.Common.{◌≡◌, ◌++◌, ◌-◌, drop}
use Rattle.sw_eval_literals.specs.Elements.{filled}
use Rattle.sw_eval_literals.proofs.elements.filled.Given as goal

abbrev pub invariant-parts : goal.invariant-parts
invariant-parts l = filled l.count l.values ≡ l.parts ++ filled (l.count - l.at) (drop l.at l.values)
