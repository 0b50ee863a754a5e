use Rattle.std.proofs.Common.{◌≡◌, drop}
use Rattle.std.specs.List.{list_all}
use Rattle.sw_builtins.specs.Shapes.{is_named}
use Rattle.sw_builtins.proofs.css_params.are_named.Given as goal

-- all so far are named
abbrev pub invariant-items : goal.invariant-items
invariant-items l = list_all (is_named l.named) (drop l.at l.items) ≡ list_all (is_named l.named) l.items
