use Rattle.std.proofs.Common.{◌≡◌, take}
use Rattle.sw_eval_configurations.proofs.given.share_given.Given as goal

abbrev pub invariant-loop-one : goal.invariant-loop-one
invariant-loop-one l = l.copy ≡ take l.one-index l.all
