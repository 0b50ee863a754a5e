use Rattle.std.proofs.Common.{◌≡◌, ◌≤◌, ℕ, List, [], length, ap, sym, ◌∙◌, slice_get, Some, arith, rules, add-one}
use Rattle.std.proofs.Common.{subst, false}
use Rattle.std.specs.FinMap.{len}
use Rattle.std.specs.Map.{lookup}
use Rattle.std.specs.Str.{bytes_eq}
use Rattle.sw_folder.specs.Table.{files_of, Entry}
use Rattle.sw_folder.specs.declared.folder.Marks.{Marks}
use Rattle.sw_folder.proofs.Folders.{IsTable-empty}
use Rattle.sw_folder.proofs.Copies.{copied, copied_all, copied_none}
use Rattle.sw_folder.proofs.folder.copy_of.Goals as goal

abbrev no_marks : Marks
no_marks = record { indented = false; underscored = false }

pub loop-at-init : goal.loop-at-init
loop-at-init c =
    let none : c.in_ok-copy.copy.entries ≡ [] = c.in_ok-copy.ensures.empty in
    record { same = copied_none c.in_ok-copy.copy.entries none; one_each = subst (λ (es : List Entry). length es ≡ len (files_of es)) (sym none) (IsTable-empty no_marks).one_each }

pub loop-at-preserved : goal.loop-at-preserved
loop-at-preserved c = record {
  same = rw add-one (copied (c.in-Some.path.now, c.in-Some.text.now) c.args.table.now.entries (files_of c.loop-at.copy.entries) (files_of c.copy_entry.new.copy.entries) c.loop-at.at
      (sym c.in-Some.ensures.entry) c.in-Some.ensures.value c.in_ok-copy_entry.ensures.files c.loop-at.invariant.same);
  one_each = c.in_ok-copy_entry.ensures.one_each c.loop-at.invariant.one_each;
}

pub returns-clause-files : goal.returns-clause-files
returns-clause-files c =
    copied_all c.args.table.now.entries (files_of c.loop-at.copy.entries) c.loop-at.at
    (let past : length c.args.table.now.entries ≤ c.loop-at.at = omega (arith, c.len-count.ensures.len, c.loop-at-test.false) in past) c.loop-at.invariant.same
