use Rattle.std.proofs.Common.{◌≡◌, drop}
use Rattle.std.specs.List.{position_from}
use Rattle.sw_values.specs.Equality.{is_equal}
use Rattle.sw_fn_list.proofs.places.place_of.Given as goal

-- no item so far is equal
abbrev pub invariant-items : goal.invariant-items
invariant-items l =
    position_from (is_equal l.value) l.at (drop l.at l.all) ≡ position_from (is_equal l.value) 0 l.all
