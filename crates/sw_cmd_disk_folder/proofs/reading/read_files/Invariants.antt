use Rattle.std.proofs.Common.{◌≡◌, ◌≤◌, map, drop, Some}
use Rattle.std.specs.FinMap as files
use Rattle.sw_io.specs.Causes.{NoFault}
use Rattle.sw_io.specs.Disks.{Course}
use Rattle.sw_cmd_disk_folder.specs.Held.{held_by}
use Rattle.sw_cmd_disk_folder.proofs.reading.read_files.Given as goal

abbrev pub invariant-paths : goal.invariant-paths
invariant-paths g l = record {
  count : l.count ≡ files.len (g.F.Holder.folder l.holder);
  few : l.count ≤ 4096;
  kept : g.D.Disk.course l.disk l.dir ≡ g.D.Disk.course l.fn.disk l.dir;
  rest : g.F.Holder.rest l.holder ≡ g.F.Holder.rest l.fn.holder;
  fine : NoFault (g.D.Disk.faults l.fn.disk) (g.D.Disk.faults l.disk);
  held : (c : Course) → g.D.Disk.course l.fn.disk l.dir ≡ Some c
      → held_by c.files (map (λ path. path.now) l.fn.paths) files.empty
      ≡ held_by c.files (map (λ path. path.now) (drop l.path-index l.paths)) (g.F.Holder.folder l.holder);
}
