use Rattle.std.proofs.Common.{◌≡◌, drop}
use Rattle.sw_parse_lexemes.specs.Plains.{holds_slash}
use Rattle.sw_parse_lexemes.proofs.plains.holds_slash.Given as goal

abbrev pub invariant-bytes : goal.invariant-bytes
invariant-bytes l = holds_slash (drop l.byte-index l.bytes) ≡ holds_slash l.bytes
