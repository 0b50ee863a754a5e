use Rattle.std.proofs.Common.{◌≡◌, ◌++◌, drop}
use Rattle.sw_convert_spelling.specs.Strings.{escaped}
use Rattle.sw_convert_written.proofs.strings.put_escaped.Given as goal

abbrev pub invariant-bytes : goal.invariant-bytes
invariant-bytes l = l.out.items ++ escaped (drop l.i l.text) ≡ l.initial.out.items ++ escaped l.text
