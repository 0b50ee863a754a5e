use Rattle.std.proofs.Common.{◌≡◌, ◌++◌}
use Rattle.sw_css_print.specs.Page.{ended}
use Rattle.sw_css_print.proofs.line.put_ended.Given as goal

abbrev pub invariant-loop-depth : goal.invariant-loop-depth
invariant-loop-depth l = l.out.items ++ ended l.low l.depth ≡ l.initial.out.items ++ ended l.low l.high

abbrev pub decreases-loop-depth : goal.decreases-loop-depth
decreases-loop-depth l = l.depth
