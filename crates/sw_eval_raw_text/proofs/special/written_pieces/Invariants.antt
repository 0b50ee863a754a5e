use Rattle.std.proofs.Common.{◌≡◌, ◌≤◌, [], drop}
use Rattle.sw_eval_raw_text.specs.Special.{written_pieces}
use Rattle.sw_eval_raw_text.proofs.special.written_pieces.Given as goal

abbrev pub invariant-all : goal.invariant-all
invariant-all l = record {
  rest : written_pieces [] l.all l.values 0 ≡ written_pieces l.done (drop l.one-index l.all) l.values l.next;
  within : l.next ≤ l.one-index;
}
