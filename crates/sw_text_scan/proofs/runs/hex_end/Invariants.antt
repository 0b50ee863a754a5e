use Rattle.std.proofs.Common.{◌≡◌}
use Rattle.sw_text_scan.specs.Runs.{hex_from, hex_end}
use Rattle.sw_text_scan.proofs.runs.hex_end.Given as goal

abbrev pub invariant-digits : goal.invariant-digits
invariant-digits l = hex_from l.bytes l.left l.place ≡ hex_end l.bytes l.at

abbrev pub decreases-digits : goal.decreases-digits
decreases-digits l = l.left
