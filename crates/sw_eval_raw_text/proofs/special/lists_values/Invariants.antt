use Rattle.std.proofs.Common.{◌≡◌, false, drop}
use Rattle.sw_eval_raw_text.specs.Special.{lists_values}
use Rattle.sw_eval_raw_text.proofs.special.lists_values.Given as goal

abbrev pub invariant-all : goal.invariant-all
invariant-all l = lists_values l.is_behind (drop l.place l.all) ≡ lists_values false l.all
