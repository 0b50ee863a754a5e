use Rattle.std.proofs.Common.{sym, ap, ◌∙◌}
use Rattle.std.specs.FinMap.{contains_key}
use Rattle.sw_folder.proofs.Tables.{is_there}
use Rattle.sw_folder.proofs.folder.Folder.holds.Goals as goal

pub returns : goal.returns
returns c = (rw c.new.ensures at c.contains_key.ensures) ∙ sym (is_there c.args.path.now c.self.inside.table.entries) ∙ ap (λ f. contains_key f c.args.path.now) c.self.view_is
