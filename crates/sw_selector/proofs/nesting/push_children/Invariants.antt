use Rattle.std.proofs.Common.{◌≡◌, ◌++◌, drop, map}
use Rattle.sw_selector.specs.Nesting.{nested}
use Rattle.sw_selector.proofs.nesting.push_children.Given as goal

abbrev pub invariant-children : goal.invariant-children
invariant-children l =
    l.out ++ map (nested l.at_root l.parent) (drop l.child-index l.children) ≡ l.initial.out ++ map (nested l.at_root l.parent) l.children
