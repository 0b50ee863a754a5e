use Rattle.std.proofs.Common.{◌≡◌, true, ◌++◌, drop, map}
use Rattle.sw_convert_written.specs.Expressions.{with_commas}
use Rattle.sw_convert_written.specs.Heads.{given_text}
use Rattle.sw_convert_written.proofs.members.put_givens.Given as goal

abbrev pub invariant-givens : goal.invariant-givens
invariant-givens l =
    l.out.items ++ with_commas l.first (map given_text (drop l.given-index l.givens)) ≡ l.initial.out.items ++ with_commas true (map given_text l.givens)
