use Rattle.std.proofs.Common.{◌≡◌, take}
use Rattle.sw_modules.specs.Interfaces.{joined}
use Rattle.sw_modules.proofs.members.Members.add_each.Given as goal

abbrev pub invariant-entries : goal.invariant-entries
invariant-entries l = l.self ≡ joined l.fn.self (take l.one-index l.entries)
