use Rattle.std.proofs.Common.{◌≡◌, ◌++◌, drop}
use Rattle.sw_css_print.specs.Page.{lines_text}
use Rattle.sw_css_print.proofs.line.put_lines.Given as goal

abbrev pub invariant-loop-line : goal.invariant-loop-line
invariant-loop-line l = l.out.items ++ lines_text l.depth (drop l.line-index l.lines) ≡ l.initial.out.items ++ lines_text l.depth l.lines
