use Rattle.std.proofs.Common.{◌≡◌, ◌-◌, ◌++◌, ◌||◌, not, length, drop}
use Rattle.sw_convert_lines.specs.Comments.{lines_in, lines_from, lines_text}
use Rattle.sw_convert_lines.specs.Layout.{has_none}
use Rattle.sw_convert_lines.proofs.comments.put_lines.Given as goal

abbrev pub invariant-lines : goal.invariant-lines
invariant-lines l =
    (l.out.items ++ lines_from l.level (not l.some) (lines_in (drop l.at l.text)) ≡ l.initial.out.items ++ lines_text l.level (lines_in l.text))
    × ((l.some || not (has_none (lines_in (drop l.at l.text)))) ≡ not (has_none (lines_in l.text)))

abbrev pub decreases-lines : goal.decreases-lines
decreases-lines l = length l.text - l.at
