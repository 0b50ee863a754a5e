use Rattle.std.proofs.Common.{◌≡◌, drop}
use Rattle.sw_cmd_disk_compile.specs.Watched.{Covers}
use Rattle.sw_cmd_disk_compile.proofs.watched.take_out_all.Given as goal

abbrev pub invariant-paths : goal.invariant-paths
invariant-paths g l = record {
  covers : Covers (drop l.path-index l.paths) l.keeper.folder;
  kept : l.keeper.kept ≡ l.fn.keeper.kept;
}
