use Rattle.std.proofs.Common.{◌≡◌, ◌≤◌, drop}
use Rattle.sw_convert_lines.specs.Comments.{end_from}
use Rattle.sw_convert_lines.proofs.comments.end_of.Given as goal

abbrev pub invariant-bytes : goal.invariant-bytes
invariant-bytes l =
    (l.to ≤ l.at) × (l.at ≡ l.byte-index) × (end_from l.to l.at (drop l.byte-index l.text) ≡ end_from 0 0 l.text)
