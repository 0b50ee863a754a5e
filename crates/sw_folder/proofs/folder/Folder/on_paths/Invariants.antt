use Rattle.std.proofs.Common.{◌≡◌, drop, map}
use Rattle.sw_folder.specs.Paths.{segments}
use Rattle.sw_folder.specs.Resolution.{first_choice, groups_from}
use Rattle.sw_folder.proofs.folder.Folder.on_paths.Given as goal

abbrev pub invariant-loop-path : goal.invariant-loop-path
invariant-loop-path l = first_choice l.self (groups_from l.url (map segments l.paths)) ≡ first_choice l.self (groups_from l.url (map segments (drop l.path-index l.paths)))
