use Rattle.std.proofs.Common.{◌≡◌, ◌+◌, ◌-◌, length}
use Rattle.sw_text_scan.specs.Brackets.{scan_from, stop_at}
use Rattle.sw_text_scan.proofs.brackets.stop_at.Given as goal

abbrev pub invariant-scan : goal.invariant-scan
invariant-scan l = scan_from l.stops l.bytes ((length l.bytes + 1) - l._step) l.closers.items l.place ≡ stop_at l.stops l.bytes l.at
