use Rattle.std.proofs.Common.{◌≡◌, ◌++◌, drop, map}
use Rattle.sw_convert_lines.specs.Layout.{first_refused}
use Rattle.sw_convert_lines.specs.Lines.{in_lines, top_lines}
use Rattle.sw_convert_lines.proofs.sheet.put_top.Given as goal

abbrev pub invariant-statements : goal.invariant-statements
invariant-statements l =
    (l.lines.bytes.items ++ top_lines (drop l.i l.statements) ≡ l.initial.lines.bytes.items ++ top_lines l.statements)
    × (first_refused (map in_lines (drop l.i l.statements)) ≡ first_refused (map in_lines l.statements))
