use Rattle.std.proofs.Common.{◌≡◌, true}
use Rattle.sw_values.specs.Growing.{is_map}
use Rattle.sw_bench_growth.proofs.growing.grown_map.Given as goal

abbrev pub invariant-keys : goal.invariant-keys
invariant-keys l = is_map l.map ≡ true
