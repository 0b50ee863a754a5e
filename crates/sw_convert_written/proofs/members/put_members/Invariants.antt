use Rattle.std.proofs.Common.{◌≡◌, true, ◌++◌, drop, map}
use Rattle.sw_convert_written.specs.Expressions.{with_commas}
use Rattle.sw_convert_written.specs.Heads.{member_text}
use Rattle.sw_convert_written.proofs.members.put_members.Given as goal

abbrev pub invariant-members : goal.invariant-members
invariant-members l =
    l.out.items ++ with_commas l.first (map member_text (drop l.member-index l.members)) ≡ l.initial.out.items ++ with_commas true (map member_text l.members)
