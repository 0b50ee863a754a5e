use Rattle.std.proofs.Common.{◌≡◌, drop}
use Rattle.sw_convert_written.specs.Rules.{place_behind}
use Rattle.sw_convert_written.proofs.rules.place_behind.Given as goal

abbrev pub invariant-bytes : goal.invariant-bytes
invariant-bytes l = place_behind l.dashed l.here (drop l.byte-index l.text) ≡ place_behind l.dashed l.initial.here l.text
