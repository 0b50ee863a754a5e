use Rattle.std.proofs.Common.{◌≡◌, sym, ap, subst, ◌∙◌, None}
use Rattle.std.specs.FinMap.{insert}
use Rattle.sw_folder.specs.Edits.{put_fault}
use Rattle.sw_folder.specs.Files.{IsFolder}
use Rattle.sw_folder.specs.Table.{files_of, marked, Tells}
use Rattle.sw_folder.proofs.Tables.{files_of-insert, one_each-insert}
use Rattle.sw_folder.proofs.Marks.{Tells-insert}
use Rattle.sw_folder.proofs.Folders.{allowed, IsFolder-insert}
use Rattle.sw_folder.proofs.folder.Folder.insert.Goals as goal

pub invariant_of-self-2 : goal.invariant_of-self-2
invariant_of-self-2 c =
    let files = files_of c.self.inside.table.entries in
    let ok : put_fault files c.args.path.now c.args.text.now ≡ None = subst (λ f. put_fault f c.args.path.now c.args.text.now ≡ None) (sym c.self.view_is) c.requires in
    let put_in : files_of c.insert.new.self.entries ≡ insert files c.args.path.now c.args.text.now
    = files_of-insert c.args.path.now c.args.text.now c.self.inside.table.entries c.insert.new.self.entries
    (rw c.in_ok-text.ensures at (rw c.in_ok-path.ensures at c.in_ok-insert.ensures.updates)).1 (rw c.in_ok-path.ensures at c.in_ok-insert.ensures.updates).3 in
    record {
      one_each = one_each-insert c.args.path.now c.args.text.now c.self.inside.table.entries c.insert.new.self.entries c.in_ok-insert.field-0
          put_in (rw c.in_ok-path.ensures at c.in_ok-insert.ensures.old) c.in_ok-insert.ensures.len c.self.invariant.one_each;
      folder = subst IsFolder (sym put_in) (IsFolder-insert files c.args.path.now c.args.text.now (allowed files c.args.path.now c.args.text.now ok) c.self.invariant.folder);
      tells = subst (λ m. Tells m (files_of c.insert.new.self.entries)) (sym c.with-marks.ensures)
          (subst (Tells (marked c.args.path.now c.self.inside.marks)) (sym put_in) (Tells-insert c.self.inside.marks files c.args.path.now c.args.text.now c.self.invariant.tells));
    }

pub returns-clause-ok : goal.returns-clause-ok
returns-clause-ok c =
    files_of-insert c.args.path.now c.args.text.now c.self.inside.table.entries c.insert.new.self.entries
    (rw c.in_ok-text.ensures at (rw c.in_ok-path.ensures at c.in_ok-insert.ensures.updates)).1 (rw c.in_ok-path.ensures at c.in_ok-insert.ensures.updates).3
    ∙ ap (λ f. insert f c.args.path.now c.args.text.now) c.self.view_is
