use Rattle.std.proofs.Common.{◌≡◌, ◌-◌, ◌++◌, drop, length, true}
use Rattle.std.specs.String.{string_bytes}
use Rattle.sw_selector.specs.Writing.{written}
use Rattle.sw_selector.proofs.write.text_within.Given as goal

abbrev pub invariant-list : goal.invariant-list
invariant-list l = record {
  text : string_bytes l.out ++ written l.first (drop l.complex-index l.list) ≡ written true l.list;
  room : l.left - length (written l.first (drop l.complex-index l.list)) ≡ l.bytes - length (written true l.list);
}
