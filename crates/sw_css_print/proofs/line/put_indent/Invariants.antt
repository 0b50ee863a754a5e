use Rattle.std.proofs.Common.{◌≡◌, ◌++◌}
use Rattle.sw_css_print.specs.Page.{indent}
use Rattle.sw_css_print.proofs.line.put_indent.Given as goal

abbrev pub invariant-loop-at : goal.invariant-loop-at
invariant-loop-at l = l.out.items ≡ l.initial.out.items ++ indent l._at
