use Rattle.std.proofs.Common.{◌≡◌, ◌-◌, ◌≤◌, ◌++◌, drop, length, map}
use Rattle.sw_css_print.specs.Page.{page_after, page, group_of, grouped}
use Rattle.sw_css_print.specs.Parts.{shuts_of}
use Rattle.sw_css_print.proofs.Groups.{shuts_last}
use Rattle.sw_css_print.proofs.group.put_groups.Given as goal

abbrev pub invariant-loop-start : goal.invariant-loop-start
invariant-loop-start l = record {
  within : l.start ≤ length l.blocks;
  bytes : l.out.items ++ page_after l.last (map group_of (grouped (map (λ b. b.now) (drop l.start l.blocks)))) ≡ l.initial.out.items ++ page (map group_of (grouped (map (λ b. b.now) l.blocks)));
  shuts : shuts_last l.last (map group_of (grouped (map (λ b. b.now) (drop l.start l.blocks)))) ≡ shuts_of (map group_of (grouped (map (λ b. b.now) l.blocks)));
}

abbrev pub decreases-loop-start : goal.decreases-loop-start
decreases-loop-start l = length l.blocks - l.start
