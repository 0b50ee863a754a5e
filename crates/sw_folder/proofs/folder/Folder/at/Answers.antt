use Rattle.std.proofs.Common.{sym, subst}
use Rattle.sw_folder.specs.Resolution.{IsResolution}
use Rattle.sw_folder.proofs.Choices.{at_place, nothing_there}
use Rattle.sw_folder.proofs.folder.Folder.at.Goals as goal

pub returns-in-None : goal.returns-in-None
returns-in-None c = nothing_there c.args.self.now c.args.place.now c.in-None.ensures.cases

pub returns-in_ok-folder-in-Some : goal.returns-in_ok-folder-in-Some
returns-in_ok-folder-in-Some c =
    subst (IsResolution c.named.result) (sym (at_place c.args.self.now c.args.place.now c.in-Some.folders.now c.in-Some.name.now _ c.in-Some.ensures.cases.0 c.in_ok-folder-in-Some.ensures)) c.named.ensures
