use Rattle.std.proofs.Common.{◌≡◌, ◌≤◌, [], drop}
use Rattle.sw_eval_raw_text.specs.Special.{all_compared}
use Rattle.sw_eval_raw_text.proofs.special.all_compared.Given as goal

abbrev pub invariant-all : goal.invariant-all
invariant-all l = record {
  rest : all_compared [] l.all l.values 0 ≡ all_compared l.done (drop l.one-index l.all) l.values l.next;
  within : l.next ≤ l.one-index;
}
