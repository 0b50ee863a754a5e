use Rattle.std.proofs.Common.{◌≡◌, drop, false}
use Rattle.sw_media.specs.Joining.{denied_from}
use Rattle.sw_media.proofs.joining.some_denied.Given as goal

abbrev pub invariant-list : goal.invariant-list
invariant-list l = denied_from l.found (drop l.query-index l.list) ≡ denied_from false l.list
