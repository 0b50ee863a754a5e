use Rattle.std.proofs.Common.{◌≡◌}
use Rattle.sw_world.proofs.configs.share_configs.Given as goal

abbrev pub invariant-loop-at : goal.invariant-loop-at
invariant-loop-at l = l.pairs.items ≡ l.fn.seen
