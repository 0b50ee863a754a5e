use Rattle.std.proofs.Common.{◌≡◌, ◌-◌, ◌≤◌, ◌+◌, length, drop}
use Rattle.sw_convert_lines.specs.Comments.{line_end}
use Rattle.sw_convert_lines.proofs.comments.line_end.Given as goal

abbrev pub invariant-bytes : goal.invariant-bytes
invariant-bytes l = (l.at ≤ length l.text) × (l.at + line_end (drop l.at l.text) ≡ line_end l.text)

abbrev pub decreases-bytes : goal.decreases-bytes
decreases-bytes l = length l.text - l.at
