use Rattle.std.proofs.Common.{◌≡◌, drop}
use Rattle.std.specs.List.{list_any}
use Rattle.sw_modules.specs.Interfaces.{is_named}
use Rattle.sw_modules.proofs.interfaces.any_named.Given as goal

abbrev pub invariant-members : goal.invariant-members
invariant-members l =
    list_any (is_named l.kind l.name) l.members
    ≡ list_any (is_named l.kind l.name) (drop l.one-index l.members)
