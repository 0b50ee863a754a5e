use Rattle.std.proofs.Common.{◌≡◌, take}
use Rattle.sw_builtins.specs.Tables.{rows_of}
use Rattle.sw_modules.proofs.PassedOn.{passed_rows}
use Rattle.sw_modules.proofs.interfaces.Passing.built_in_interface.Given as goal

abbrev pub invariant-members : goal.invariant-members
invariant-members l =
    l.brought ≡ passed_rows l.self.prefix.now l.self.which.now l.url (take l.at (rows_of l.url))
