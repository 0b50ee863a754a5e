use Rattle.std.proofs.Common.{sym}
use Rattle.sw_folder.specs.declared.edit.EditFault.TheVariants.{BadPath, TooLong}
use Rattle.sw_folder.proofs.Folders.{unread_first, bad_path, too_long}
use Rattle.sw_folder.proofs.edit.unread_fault.Goals as goal

pub returns-then-not-is_path-clause-decides : goal.returns-then-not-is_path-clause-decides
returns-then-not-is_path-clause-decides c = λ files bytes e. unread_first files c.args.path.now bytes c.args.count BadPath e (bad_path _ _ (sym c.if-not-is_path.ensures))

pub returns-then-count-gt-MOST_BYTES-clause-decides : goal.returns-then-count-gt-MOST_BYTES-clause-decides
returns-then-count-gt-MOST_BYTES-clause-decides c = λ files bytes e.
    unread_first files c.args.path.now bytes c.args.count TooLong e (too_long _ _ (sym c.if-not-is_path.ensures) c.if-count-gt-MOST_BYTES.true)
