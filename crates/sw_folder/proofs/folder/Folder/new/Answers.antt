use Rattle.std.proofs.Common.{sym, subst, false}
use Rattle.sw_folder.specs.declared.folder.Marks.{Marks}
use Rattle.sw_folder.specs.Table.{IsTable}
use Rattle.sw_folder.proofs.Folders.{IsTable-empty}
use Rattle.sw_folder.proofs.folder.Folder.new.Goals as goal

abbrev no_marks : Marks
no_marks = record { indented = false; underscored = false }

pub invariant_of-result : goal.invariant_of-result
invariant_of-result c = subst (IsTable no_marks) (sym c.new.ensures.empty) (IsTable-empty no_marks)
