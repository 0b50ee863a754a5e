use Rattle.std.proofs.Common.{◌≡◌, drop}
use Rattle.std.specs.Str.{IsCharBoundary}
use Rattle.sw_parse_terminals.specs.Urls.{part_from, part_start}
use Rattle.sw_parse_terminals.proofs.url.part_start.Given as goal

abbrev pub invariant-bytes : goal.invariant-bytes
invariant-bytes l = record {
  start : part_from l.start l.at (drop l.at l.url) ≡ part_start l.url;
  boundary : IsCharBoundary l.url l.start;
}
