use Rattle.std.proofs.Common.{[], false, is_some, ap}
use Rattle.sw_values.specs.declared.plain.Separator.TheVariants.{Comma}
use Rattle.sw_values.specs.declared.value.Node.{Node}
use Rattle.sw_values.specs.declared.value.Node.TheVariants as N
use Rattle.sw_values.specs.Growing.{list_parts}
use Rattle.sw_values.proofs.Alike.{back}
use Rattle.sw_bench_growth.proofs.growing.grown_list.Goals as goal

pub items-init : goal.items-init
items-init c = rw (c.in_ok-list.ensures.ok) (ap (λ (n : Node). is_some (list_parts n)) (back (N.List [] Comma false)))
