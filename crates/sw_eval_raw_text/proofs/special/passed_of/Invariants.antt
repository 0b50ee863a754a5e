use Rattle.std.proofs.Common.{◌≡◌, take}
use Rattle.sw_eval_raw_text.specs.Special.{passed_of}
use Rattle.sw_eval_raw_text.proofs.special.passed_of.Given as goal

abbrev pub invariant-values : goal.invariant-values
invariant-values l = l.passed ≡ passed_of (take l.value-index l.values)
