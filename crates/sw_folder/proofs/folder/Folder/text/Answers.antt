use Rattle.std.proofs.Common.{sym, ap, ◌∙◌}
use Rattle.std.specs.FinMap.{get}
use Rattle.sw_folder.proofs.Tables.{get-files_of}
use Rattle.sw_folder.proofs.Folders.{found_short, found_path}
use Rattle.sw_folder.proofs.folder.Folder.text.Goals as goal

pub returns-clause-value : goal.returns-clause-value
returns-clause-value c = (rw c.new.ensures at c.get.ensures.value) ∙ sym (get-files_of c.args.path.now c.self.inside.table.entries) ∙ ap (λ f. get f c.args.path.now) c.self.view_is

pub returns-clause-short : goal.returns-clause-short
returns-clause-short c = found_short c.args.path.now c.self.inside.table.entries c.get.result (rw c.new.ensures at c.get.ensures.value) c.self.invariant.folder

pub returns-clause-path : goal.returns-clause-path
returns-clause-path c = found_path c.args.path.now c.self.inside.table.entries c.get.result (rw c.new.ensures at c.get.ensures.value) c.self.invariant.folder
