use Rattle.std.proofs.Common.{◌≡◌, ◌++◌, drop}
use Rattle.sw_convert_alike.specs.RawText.{in_line, open_behind}
use Rattle.sw_convert_lines.specs.Opens.{open_of}
use Rattle.sw_convert_lines.proofs.texts.put_in_line.Given as goal

abbrev pub invariant-bytes : goal.invariant-bytes
invariant-bytes l =
    (l.out.items ++ in_line (open_of l.here) (drop l.byte-index l.text) ≡ l.initial.out.items ++ in_line (open_of l.initial.here) l.text)
    × (open_behind (open_of l.here) (drop l.byte-index l.text) ≡ open_behind (open_of l.initial.here) l.text)
