use Rattle.std.proofs.Common.{◌≡◌, ◌-◌, ◌≤◌, length, drop}
use Rattle.sw_text_scan.specs.Bytes.{is_white}
use Rattle.sw_convert_alike.specs.Comments.{without_front}
use Rattle.sw_convert_lines.proofs.comments.without_white.Given as goal

abbrev pub invariant-bytes : goal.invariant-bytes
invariant-bytes l = (l.at ≤ length l.text) × (without_front is_white (drop l.at l.text) ≡ without_front is_white l.text)

abbrev pub decreases-bytes : goal.decreases-bytes
decreases-bytes l = length l.text - l.at
