use Rattle.std.proofs.Common.{◌≡◌, ◌++◌, drop, map}
use Rattle.sw_css_print.specs.Parts.{print_one}
use Rattle.sw_css_print.proofs.page.parts.Given as goal

abbrev pub invariant-loop-tree : goal.invariant-loop-tree
invariant-loop-tree l = l.parts.items ++ map print_one (drop l.tree-index l.trees) ≡ map print_one l.trees
