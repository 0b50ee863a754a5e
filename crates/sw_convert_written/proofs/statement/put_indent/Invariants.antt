use Rattle.std.proofs.Common.{◌≡◌, ◌++◌}
use Rattle.sw_convert_written.specs.Statements.{indent}
use Rattle.sw_convert_written.proofs.statement.put_indent.Given as goal

abbrev pub invariant-levels : goal.invariant-levels
invariant-levels l = l.out.items ≡ l.initial.out.items ++ indent l._at
