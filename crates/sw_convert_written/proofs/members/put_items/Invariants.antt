use Rattle.std.proofs.Common.{◌≡◌, true, ◌++◌, drop, map}
use Rattle.sw_convert_written.specs.Expressions.{with_commas}
use Rattle.sw_convert_written.specs.Heads.{param_text}
use Rattle.sw_convert_written.proofs.members.put_items.Given as goal

abbrev pub invariant-params : goal.invariant-params
invariant-params l =
    l.out.items ++ with_commas l.first (map param_text (drop l.param-index l.items)) ≡ l.initial.out.items ++ with_commas true (map param_text l.items)
