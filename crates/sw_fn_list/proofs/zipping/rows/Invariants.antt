use Rattle.std.proofs.Common.{◌≡◌, ◌++◌, ◌-◌}
use Rattle.sw_fn_list.specs.Joining.{rows_from}
use Rattle.sw_fn_list.proofs.zipping.rows.Given as goal

abbrev pub invariant-rows : goal.invariant-rows
invariant-rows l = l.all ++ rows_from l.columns l.at (l.count - l.at) ≡ rows_from l.columns 0 l.count
