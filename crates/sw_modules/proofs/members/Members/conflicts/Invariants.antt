use Rattle.std.proofs.Common.{◌≡◌, drop}
use Rattle.sw_modules.specs.Interfaces.{conflicts}
use Rattle.sw_modules.proofs.members.Members.conflicts.Given as goal

abbrev pub invariant-entries : goal.invariant-entries
invariant-entries l = conflicts l.self l.entries ≡ conflicts l.self (drop l.one-index l.entries)
