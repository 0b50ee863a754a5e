use Rattle.std.proofs.Common.{◌≡◌, ◌++◌, List, drop, map}
use Rattle.sw_selector.specs.declared.selector.Part.{Part}
use Rattle.sw_selector.specs.Nesting.{spliced}
use Rattle.sw_selector.proofs.splice.push_all_spliced.Given as goal

abbrev pub invariant-parents : goal.invariant-parents
invariant-parents l =
    l.list ++ map (λ (parent : List Part). spliced parent l.complex) (drop l.parent-index l.parents)
    ≡ l.initial.list ++ map (λ (parent : List Part). spliced parent l.complex) l.parents
