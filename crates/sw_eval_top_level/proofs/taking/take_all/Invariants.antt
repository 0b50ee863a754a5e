use Rattle.std.proofs.Common.{◌≡◌, drop}
use Rattle.sw_eval_top_level.specs.Taking.{took_all}
use Rattle.sw_eval_top_level.proofs.taking.take_all.Given as goal

abbrev pub invariant-loop-name : goal.invariant-loop-name
invariant-loop-name l = took_all (drop l.name-index l.names) l.state ≡ took_all l.names l.initial.state
