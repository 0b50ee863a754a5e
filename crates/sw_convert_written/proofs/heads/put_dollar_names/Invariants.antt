use Rattle.std.proofs.Common.{◌≡◌, true, ◌++◌, drop, map}
use Rattle.sw_convert_written.specs.Expressions.{with_commas}
use Rattle.sw_convert_written.specs.Names.{dollar_name}
use Rattle.sw_convert_written.proofs.heads.put_dollar_names.Given as goal

abbrev pub invariant-names : goal.invariant-names
invariant-names l =
    l.out.items ++ with_commas l.first (map dollar_name (drop l.name-index l.names)) ≡ l.initial.out.items ++ with_commas true (map dollar_name l.names)
