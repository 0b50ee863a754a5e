use Rattle.std.proofs.Common.{◌≡◌, None, false, drop}
use Rattle.sw_convert_written.specs.Pieces.{ends_loose_from}
use Rattle.sw_convert_written.proofs.pieces.ends_loose.Given as goal

abbrev pub invariant-bytes : goal.invariant-bytes
invariant-bytes l =
    ends_loose_from l.escape l.returned l.loose (drop l.byte-index l.text) ≡ ends_loose_from None false false l.text
