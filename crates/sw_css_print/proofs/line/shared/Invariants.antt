use Rattle.std.proofs.Common.{◌≡◌, ◌+◌, ◌-◌, drop, length}
use Rattle.sw_css_print.specs.Page.{shared}
use Rattle.sw_css_print.proofs.line.shared.Given as goal

abbrev pub invariant-loop-count : goal.invariant-loop-count
invariant-loop-count l = l.count + shared (drop l.count l.one) (drop l.count l.other) ≡ shared l.one l.other

abbrev pub decreases-loop-count : goal.decreases-loop-count
decreases-loop-count l = length l.one - l.count
