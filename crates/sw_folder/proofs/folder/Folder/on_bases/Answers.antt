use Rattle.std.proofs.Common.{◌∷◌, ◌++◌, [], codes, map}
use Rattle.sw_folder.specs.Paths.{segments}
use Rattle.sw_folder.specs.Resolution.{groups_at, groups_from, walk}
use Rattle.sw_folder.proofs.Choices.{front_found, front_fault, front_next}
use Rattle.sw_folder.proofs.folder.Folder.on_bases.Goals as goal

pub returns-in-Ok-None : goal.returns-in-Ok-None
returns-in-Ok-None c =
    front_next c.args.self.now (groups_at (walk [] ((segments c.args.from.now ++ codes ".." ∷ []) ++ segments c.args.url.now))) (groups_from c.args.url.now (map segments c.args.paths.now))
    c.on_paths.result (rw c.in-Ok-None.field-0-is at c.in-Ok-None.ensures) c.on_paths.ensures

pub returns-in-Ok-Some : goal.returns-in-Ok-Some
returns-in-Ok-Some c =
    front_found c.args.self.now (groups_at (walk [] ((segments c.args.from.now ++ codes ".." ∷ []) ++ segments c.args.url.now))) (groups_from c.args.url.now (map segments c.args.paths.now))
    c.in-Ok-Some.found (rw c.in-Ok-Some.field-0-is at c.in-Ok-Some.ensures)

pub returns-in-Err : goal.returns-in-Err
returns-in-Err c =
    front_fault c.args.self.now (groups_at (walk [] ((segments c.args.from.now ++ codes ".." ∷ []) ++ segments c.args.url.now))) (groups_from c.args.url.now (map segments c.args.paths.now))
    c.in-Err.fault c.in-Err.ensures
