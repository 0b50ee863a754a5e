use Rattle.std.specs.FinMap.{insert}
use Rattle.std.proofs.Common.{◌≡◌}
use Rattle.sw_folder.specs.Table.{files_of}
use Rattle.sw_folder.proofs.Tables.{files_of-insert, one_each-insert}
use Rattle.sw_folder.proofs.folder.copy_entry.Goals as goal

pub returns-clause-files : goal.returns-clause-files
returns-clause-files c =
    files_of-insert c.args.path.now c.args.text.now c.args.copy.now.entries c.insert.new.self.entries
    (rw c.in_ok-text.ensures at (rw c.in_ok-path.ensures at c.in_ok-insert.ensures.updates)).1 (rw c.in_ok-path.ensures at c.in_ok-insert.ensures.updates).3

pub returns-clause-one_each : goal.returns-clause-one_each
returns-clause-one_each c =
    let put_in : files_of c.insert.new.self.entries ≡ insert (files_of c.args.copy.now.entries) c.args.path.now c.args.text.now
    = files_of-insert c.args.path.now c.args.text.now c.args.copy.now.entries c.insert.new.self.entries
    (rw c.in_ok-text.ensures at (rw c.in_ok-path.ensures at c.in_ok-insert.ensures.updates)).1 (rw c.in_ok-path.ensures at c.in_ok-insert.ensures.updates).3 in
    one_each-insert c.args.path.now c.args.text.now c.args.copy.now.entries c.insert.new.self.entries c.in_ok-insert.field-0
    put_in (rw c.in_ok-path.ensures at c.in_ok-insert.ensures.old) c.in_ok-insert.ensures.len
