use Rattle.std.proofs.Common.{sym, subst}
use Rattle.sw_folder.specs.Files.{IsFolder}
use Rattle.sw_folder.specs.Table.{Tells}
use Rattle.sw_folder.proofs.folder.Folder.copy.Goals as goal

pub invariant_of-result : goal.invariant_of-result
invariant_of-result c =
    let same = c.in_ok-table.ensures.files in
    record {
      one_each = c.in_ok-table.ensures.one_each;
      folder = subst IsFolder (sym same) c.self.invariant.folder;
      tells = subst (Tells c.self.inside.marks) (sym same) c.self.invariant.tells;
    }
