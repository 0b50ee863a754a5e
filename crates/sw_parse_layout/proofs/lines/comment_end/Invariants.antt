use Rattle.std.proofs.Common.{◌≡◌, ◌-◌, ◌≤◌, suc, length}
use Rattle.sw_parse_layout.specs.Lines.{comment_from, comment_end}
use Rattle.sw_parse_layout.proofs.lines.comment_end.Given as goal

abbrev pub invariant-comment : goal.invariant-comment
invariant-comment l = record {
  rest : comment_from l.bytes l.reach (suc (length l.bytes) - l._step) l.place ≡ comment_end l.bytes l.reach l.at;
  within : l.place ≤ length l.bytes;
}
