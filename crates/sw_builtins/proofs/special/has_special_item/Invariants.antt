use Rattle.std.proofs.Common.{◌≡◌, drop}
use Rattle.std.specs.List.{list_any}
use Rattle.sw_builtins.specs.Written.{is_special_item}
use Rattle.sw_builtins.proofs.special.has_special_item.Given as goal

-- no item so far is special
abbrev pub invariant-items : goal.invariant-items
invariant-items l = list_any is_special_item (drop l.at l.items) ≡ list_any is_special_item l.items
