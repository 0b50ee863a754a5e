use Rattle.std.proofs.Common.{◌≡◌, ◌++◌, take}
use Rattle.sw_modules.proofs.PassedOn.{passed_owns}
use Rattle.sw_modules.proofs.interfaces.Passing.pass_owns.Given as goal

abbrev pub invariant-members : goal.invariant-members
invariant-members g l =
    l.brought
    ≡ l.fn.brought ++ passed_owns l.self.prefix.now l.self.which.now l.kind l.path (take l.place l.table)
