use Rattle.std.proofs.Common.{◌≡◌, None, drop}
use Rattle.sw_convert_written.specs.Escapes.{behind_text}
use Rattle.sw_convert_written.proofs.escapes.behind_text.Given as goal

abbrev pub invariant-bytes : goal.invariant-bytes
invariant-bytes l = behind_text l.escape (drop l.byte-index l.text) ≡ behind_text None l.text
