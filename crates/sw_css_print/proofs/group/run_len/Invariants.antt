use Rattle.std.proofs.Common.{◌≡◌, ◌+◌, ◌-◌, ◌≤◌, drop, length, map}
use Rattle.sw_css_print.specs.Page.{run_len}
use Rattle.sw_css_print.proofs.group.run_len.Given as goal

abbrev pub invariant-loop-len : goal.invariant-loop-len
invariant-loop-len l = (l.len + run_len l.statement (map (λ b. b.now) (drop l.len l.blocks)) ≡ run_len l.statement (map (λ b. b.now) l.blocks)) × (l.len ≤ length l.blocks)

abbrev pub decreases-loop-len : goal.decreases-loop-len
decreases-loop-len l = length l.blocks - l.len
