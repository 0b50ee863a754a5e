use Rattle.std.proofs.Common.{◌≡◌, map, take}
use Rattle.sw_cmd_disk_folder.proofs.order.texts.Given as goal

abbrev pub invariant-names : goal.invariant-names
invariant-names l = map (λ path. path.now) l.texts.items ≡ take l.name-index l.names
