use Rattle.sw_io.specs.declared.disk.DiskEnd.TheVariants.{Failed}
use Rattle.sw_io.proofs.Causes.{after_none, fine_ok}
use Rattle.sw_cmd_disk_folder.proofs.Folders.{on_ok, read_is}
use Rattle.sw_cmd_disk_folder.proofs.reading.read_folder.Goals as goal

pub returns-in-Ok-clause-ok : goal.returns-in-Ok-clause-ok
returns-in-Ok-clause-ok g c =
    on_ok c.read_files.result (read_is (g.D.Disk.course c.args.disk.now c.args.dir.now) (g.D.Disk.course c.list.new.self c.args.dir.now)
    (g.D.Disk.course c.read_files.new.disk c.args.dir.now) c.in_ok-names.names c.as_slice.result.now c.in-Ok.paths.items c.deref.result.now
    (g.F.Holder.folder c.read_files.new.holder) c.in_ok-names.ensures.folder.listed c.read_files.ensures.kept c.as_slice.ensures c.in-Ok.ensures
    c.deref.ensures.value) c.read_files.ensures.ok

pub returns-in-Ok-clause-cause : goal.returns-in-Ok-clause-cause
returns-in-Ok-clause-cause g c = after_none Failed _ _ _ c.read_files.result (fine_ok Failed _ _ _ c.in_ok-names.ensures.cause) c.read_files.ensures.cause
