use Rattle.std.proofs.Common.{◌≡◌, drop, bytes_eq}
use Rattle.std.specs.List.{list_any}
use Rattle.sw_builtins.proofs.css_params.is_named.Given as goal

-- none so far is the name
abbrev pub invariant-named : goal.invariant-named
invariant-named l = list_any (bytes_eq l.param.name) (drop l.at l.named) ≡ list_any (bytes_eq l.param.name) l.named
