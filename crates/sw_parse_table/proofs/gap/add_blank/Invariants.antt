use Rattle.std.proofs.Common.{◌≡◌, ◌++◌, drop, false, string_bytes}
use Rattle.sw_parse_table.specs.Sources.{blank}
use Rattle.sw_parse_table.proofs.gap.add_blank.Given as goal

abbrev pub invariant-bytes : goal.invariant-bytes
invariant-bytes l =
    string_bytes l.text ++ blank l.silent (drop l.byte-index l.gap) ≡ string_bytes l.fn.text ++ blank false l.gap
