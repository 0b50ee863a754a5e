use Rattle.std.proofs.Common.{◌≡◌, bytes_eq, length, drop}
use Rattle.sw_text.specs.Names.{dashed}
use Rattle.sw_hosts.proofs.names.is_stored_as.Given as goal

abbrev pub invariant-bytes : goal.invariant-bytes
invariant-bytes l = (length l.stored ≡ length l.name)
    × (bytes_eq (drop l.at l.stored) (dashed (drop l.at l.name)) ≡ bytes_eq l.stored (dashed l.name))
