use Rattle.std.proofs.Common.{◌≡◌, ◌++◌, drop}
use Rattle.std.specs.Prelude.{slice_get}
use Rattle.std.specs.List.{filter_map}
use Rattle.sw_fn_list.proofs.zipping.row_items.Given as goal

abbrev pub invariant-columns : goal.invariant-columns
invariant-columns l =
    l.all ++ filter_map (λ column. slice_get column l.at) (drop l.number l.columns)
    ≡ filter_map (λ column. slice_get column l.at) l.columns
