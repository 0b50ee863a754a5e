use Rattle.std.proofs.Common.{◌≡◌, sym, ap, subst, ◌∙◌, is_some}
use Rattle.std.specs.FinMap.{contains_key, remove}
use Rattle.sw_folder.specs.Files.{IsFolder}
use Rattle.sw_folder.specs.Table.{files_of, Tells}
use Rattle.sw_folder.proofs.Tables.{is_there, files_of-removed, one_each-remove, files_of-absent}
use Rattle.sw_folder.proofs.Marks.{Tells-remove}
use Rattle.sw_folder.proofs.Folders.{IsFolder-remove}
use Rattle.sw_folder.proofs.folder.Folder.take_out.Goals as goal

taken : (c : goal.Joined-swap_remove) → files_of c.swap_remove.new.self.entries ≡ remove (files_of c.self.inside.table.entries) c.args.path.now
taken c = files_of-removed c.args.path.now c.self.inside.table.entries c.swap_remove.new.self.entries (rw c.new.ensures at c.swap_remove.ensures.updates).1 (rw c.new.ensures at c.swap_remove.ensures.updates).3

pub invariant_of-self : goal.invariant_of-self
invariant_of-self c = record {
  one_each = one_each-remove c.args.path.now c.self.inside.table.entries c.swap_remove.new.self.entries c.swap_remove.result (taken c) (rw c.new.ensures at c.swap_remove.ensures.value) c.swap_remove.ensures.len c.self.invariant.one_each;
  tells = subst (Tells c.self.inside.marks) (sym (taken c)) (Tells-remove c.self.inside.marks (files_of c.self.inside.table.entries) c.args.path.now c.self.invariant.tells);
  folder = subst IsFolder (sym (taken c)) (IsFolder-remove (files_of c.self.inside.table.entries) c.args.path.now c.self.invariant.folder);
}

pub returns-clause-found : goal.returns-clause-found
returns-clause-found c =
    c.is_some.ensures ∙ ap is_some (rw c.new.ensures at c.swap_remove.ensures.value) ∙ sym (is_there c.args.path.now c.self.inside.table.entries)
    ∙ ap (λ f. contains_key f c.args.path.now) c.self.view_is

pub returns-clause-after : goal.returns-clause-after
returns-clause-after c = taken c ∙ ap (λ f. remove f c.args.path.now) c.self.view_is

pub returns-clause-absent : goal.returns-clause-absent
returns-clause-absent c =
    files_of-absent c.args.self.now c.self.inside.table.entries c.swap_remove.new.self.entries c.swap_remove.result c.is_some.result
    c.is_some.ensures c.swap_remove.ensures.unchanged c.self.view_is
