use Rattle.std.proofs.Common.{◌≡◌, ◌++◌, drop, true}
use Rattle.std.specs.String.{string_bytes}
use Rattle.sw_selector.specs.Writing.{written}
use Rattle.sw_selector.proofs.write.text_of.Given as goal

abbrev pub invariant-list : goal.invariant-list
invariant-list l = string_bytes l.out ++ written l.first (drop l.complex-index l.list) ≡ written true l.list
