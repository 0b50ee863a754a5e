use Rattle.std.proofs.Common.{◌≡◌, ◌++◌, take}
use Rattle.sw_modules.specs.Interfaces.{of_kind}
use Rattle.sw_modules.proofs.PassedOn.{passed_open}
use Rattle.sw_modules.proofs.interfaces.Passing.pass_forwarded.Given as goal

abbrev pub invariant-members : goal.invariant-members
invariant-members l =
    l.brought
    ≡ l.fn.brought
    ++ passed_open l.self.prefix.now l.self.which.now l.kind l.held (take l.place (of_kind l.kind l.forwarded))
