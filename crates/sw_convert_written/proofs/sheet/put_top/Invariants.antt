use Rattle.std.proofs.Common.{◌≡◌, ◌++◌, drop, map}
use Rattle.sw_convert_written.specs.Statements.{statement_shown, top_text}
use Rattle.sw_convert_written.proofs.sheet.put_top.Given as goal

abbrev pub invariant-statements : goal.invariant-statements
invariant-statements l =
    l.out.items ++ top_text (map statement_shown (drop l.i l.statements)) ≡ l.initial.out.items ++ top_text (map statement_shown l.statements)
