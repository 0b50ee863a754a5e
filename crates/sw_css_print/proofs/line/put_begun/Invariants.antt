use Rattle.std.proofs.Common.{◌≡◌, ◌++◌, drop}
use Rattle.sw_css_print.specs.Page.{begun}
use Rattle.sw_css_print.proofs.line.put_begun.Given as goal

abbrev pub invariant-loop-at : goal.invariant-loop-at
invariant-loop-at l = l.out.items ++ begun l.at (drop l.at l.wrappers) ≡ l.initial.out.items ++ begun l.depth (drop l.depth l.wrappers)
