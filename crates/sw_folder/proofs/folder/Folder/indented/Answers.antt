use Rattle.std.proofs.Common.{codes}
use Rattle.sw_folder.proofs.Marks.{none_of_two}
use Rattle.sw_folder.proofs.folder.Folder.indented.Goals as goal

pub returns-else-may_be_indented : goal.returns-else-may_be_indented
returns-else-may_be_indented c =
    none_of_two c.args.self.now c.args.folder.now c.args.name.now (codes ".sass") (rw c.if-may_be_indented.false at c.may_be_indented.ensures)
