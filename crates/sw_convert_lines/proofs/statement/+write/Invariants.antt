use Rattle.std.proofs.Common.{◌≡◌, true, ◌+◌, ◌++◌, drop, map}
use Rattle.sw_convert_lines.specs.Layout.{inner_text, first_refused}
use Rattle.sw_convert_lines.specs.Lines.{in_lines, conditions_text, refused_conditions, condition_of}
use Rattle.sw_convert_lines.proofs.statement.+write.Given as goal

abbrev pub invariant-put_inner-statements : goal.invariant-put_inner-statements
invariant-put_inner-statements l =
    (l.inner ≡ l.level + 1)
    × (l.lines.bytes.items ++ inner_text (l.level + 1) (map in_lines (drop l.statement-index l.block))
    ≡ l.initial.lines.bytes.items ++ inner_text (l.level + 1) (map in_lines l.block))
    × (first_refused (map in_lines (drop l.statement-index l.block)) ≡ first_refused (map in_lines l.block))

abbrev pub invariant-put_conditions-branches : goal.invariant-put_conditions-branches
invariant-put_conditions-branches l =
    (l.lines.bytes.items ++ conditions_text l.level l.first (map condition_of (drop l.branch-index l.branches))
    ≡ l.initial.lines.bytes.items ++ conditions_text l.level true (map condition_of l.branches))
    × (refused_conditions (map condition_of (drop l.branch-index l.branches)) ≡ refused_conditions (map condition_of l.branches))
