use Rattle.std.proofs.Common.{◌≡◌, ◌-◌, ◌++◌, string_bytes}
use Rattle.std.specs.Str.{IsCharBoundary}
use Rattle.sw_parse_table.specs.Sources.{bytes, blank_from, gap_at}
use Rattle.sw_parse_table.proofs.gap.add_gap.Given as goal

abbrev pub invariant-comments : goal.invariant-comments
invariant-comments l = record {
  added : string_bytes l.text ++ blank_from l.source l.to l.from l.place (l.end - l.place) ≡ string_bytes l.fn.text ++ gap_at l.source l.at;
  boundary : IsCharBoundary (bytes l.source) l.from;
}
