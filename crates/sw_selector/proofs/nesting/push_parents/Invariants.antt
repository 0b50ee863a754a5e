use Rattle.std.proofs.Common.{◌≡◌, ◌++◌, List, drop, map}
use Rattle.std.specs.List.{flat_map}
use Rattle.sw_selector.specs.declared.selector.Part.{Part}
use Rattle.sw_selector.specs.Nesting.{nested}
use Rattle.sw_selector.proofs.nesting.push_parents.Given as goal

abbrev pub invariant-parents : goal.invariant-parents
invariant-parents l =
    l.out ++ flat_map (λ (parent : List Part). map (nested l.at_root parent) l.children) (drop l.parent-index l.parents)
    ≡ l.initial.out ++ flat_map (λ (parent : List Part). map (nested l.at_root parent) l.children) l.parents
