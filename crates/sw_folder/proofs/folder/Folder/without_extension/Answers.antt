use Rattle.std.proofs.Common.{◌∷◌, [], codes}
use Rattle.sw_folder.specs.Resolution.{sheets, both}
use Rattle.sw_folder.proofs.Choices.{group_found, group_fault, group_next, group_last}
use Rattle.sw_folder.proofs.folder.Folder.without_extension.Goals as goal

pub returns-in-Ok-None : goal.returns-in-Ok-None
returns-in-Ok-None c =
    let css = both c.args.folder.now c.args.name.now (codes ".css") in
    group_next c.args.self.now (sheets c.args.folder.now c.args.name.now) (css ∷ []) c.both.result (rw c.in-Ok-None.field-0-is at c.in-Ok-None.ensures)
    (group_last c.args.self.now css [] c.both.result c.both.ensures)

pub returns-in-Ok-Some : goal.returns-in-Ok-Some
returns-in-Ok-Some c =
    group_found c.args.self.now (sheets c.args.folder.now c.args.name.now) (both c.args.folder.now c.args.name.now (codes ".css") ∷ []) c.in-Ok-Some.found
    (rw c.in-Ok-Some.field-0-is at c.in-Ok-Some.ensures)

pub returns-in-Err : goal.returns-in-Err
returns-in-Err c = group_fault c.args.self.now (sheets c.args.folder.now c.args.name.now) (both c.args.folder.now c.args.name.now (codes ".css") ∷ []) c.in-Err.fault c.in-Err.ensures
