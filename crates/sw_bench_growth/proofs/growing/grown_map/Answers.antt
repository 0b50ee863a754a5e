use Rattle.std.proofs.Common.{[], is_some, ap}
use Rattle.sw_values.specs.declared.value.Node.{Node}
use Rattle.sw_values.specs.declared.value.Node.TheVariants as N
use Rattle.sw_values.specs.Growing.{map_pairs}
use Rattle.sw_values.proofs.Alike.{back}
use Rattle.sw_bench_growth.proofs.growing.grown_map.Goals as goal

pub keys-init : goal.keys-init
keys-init c = rw (c.in_ok-map.ensures.ok) (ap (λ (n : Node). is_some (map_pairs n)) (back (N.Map [])))
