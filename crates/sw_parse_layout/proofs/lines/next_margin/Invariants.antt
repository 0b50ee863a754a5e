use Rattle.std.proofs.Common.{◌≡◌, ◌-◌, ◌≤◌, length}
use Rattle.sw_parse_layout.specs.Lines.{margin_from, next_margin}
use Rattle.sw_parse_layout.proofs.lines.next_margin.Given as goal

abbrev pub invariant-blanks : goal.invariant-blanks
invariant-blanks l = record {
  rest : margin_from l.bytes (length l.bytes - l._step) l.start l.text ≡ next_margin l.bytes l.at;
  order : l.start ≤ l.text;
  within : l.text ≤ length l.bytes;
}
