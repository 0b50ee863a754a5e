use Rattle.std.proofs.Common.{◌≡◌, ◌++◌, drop}
use Rattle.sw_css_print.specs.Parts.{rests_after}
use Rattle.sw_css_print.proofs.page.put_rests.Given as goal

abbrev pub invariant-loop-part : goal.invariant-loop-part
invariant-loop-part l = l.out.items ++ rests_after l.last (drop l.part-index l.parts) ≡ l.initial.out.items ++ rests_after l.initial.last l.parts
