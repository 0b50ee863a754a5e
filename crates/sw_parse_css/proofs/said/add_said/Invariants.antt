use Rattle.std.proofs.Common.{◌≡◌, ◌-◌, ◌++◌, string_bytes}
use Rattle.std.specs.Str.{IsCharBoundary}
use Rattle.sw_parse_css.specs.Seen.{seen, bytes, said_from}
use Rattle.sw_parse_css.proofs.said.add_said.Given as goal

abbrev pub invariant-places : goal.invariant-places
invariant-places l = record {
  added :
      string_bytes l.text ++ said_from (seen l.source) l.to l.from l.at (l.last - l.at)
      ≡ string_bytes l.fn.text ++ said_from (seen l.source) l.fn.offsets.1 l.fn.offsets.0 l.first (l.last - l.first);
  boundary : IsCharBoundary (bytes (seen l.source)) l.from;
}
