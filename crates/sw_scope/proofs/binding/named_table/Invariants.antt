use Rattle.std.proofs.Common.{◌≡◌, [], take, drop}
use Rattle.sw_scope.specs.Bind.{are_apart}
use Rattle.sw_scope.proofs.binding.named_table.Given as goal

abbrev pub invariant-named : goal.invariant-named
invariant-named l = record {
  known : l.table ≡ take l.at l.named;
  apart : are_apart [] l.named ≡ are_apart l.table (drop l.at l.named);
}
