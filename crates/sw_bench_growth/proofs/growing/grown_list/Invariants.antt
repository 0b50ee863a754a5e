use Rattle.std.proofs.Common.{◌≡◌, true}
use Rattle.sw_values.specs.Growing.{is_list}
use Rattle.sw_bench_growth.proofs.growing.grown_list.Given as goal

abbrev pub invariant-items : goal.invariant-items
invariant-items l = is_list l.list ≡ true
