use Rattle.std.proofs.Common.{◌≡◌, drop}
use Rattle.std.specs.List.{list_any}
use Rattle.sw_text_scan.specs.Bytes.{is_break}
use Rattle.sw_convert_lines.proofs.held.breaks.Given as goal

abbrev pub invariant-bytes : goal.invariant-bytes
invariant-bytes l = list_any is_break (drop l.byte-index l.bytes) ≡ list_any is_break l.bytes
