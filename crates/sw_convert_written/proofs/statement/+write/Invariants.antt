use Rattle.std.proofs.Common.{◌≡◌, true, ◌++◌, drop, map}
use Rattle.sw_convert_written.specs.Statements.{inner_text, branches_text, statement_shown, branch_shown}
use Rattle.sw_convert_written.proofs.statement.+write.Given as goal

abbrev pub invariant-put_inner-statements : goal.invariant-put_inner-statements
invariant-put_inner-statements l =
    l.out.items ++ inner_text l.level (map statement_shown (drop l.statement-index l.block))
    ≡ l.initial.out.items ++ inner_text l.level (map statement_shown l.block)

abbrev pub invariant-put_branches-branches : goal.invariant-put_branches-branches
invariant-put_branches-branches l =
    l.out.items ++ branches_text l.level l.first (map branch_shown (drop l.branch-index l.branches))
    ≡ l.initial.out.items ++ branches_text l.level true (map branch_shown l.branches)
