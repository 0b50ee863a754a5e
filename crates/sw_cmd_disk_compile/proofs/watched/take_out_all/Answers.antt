use Rattle.std.proofs.Common.{refl, ◌∙◌}
use Rattle.sw_cmd_disk_compile.proofs.Clearing.{covers_next, covers_last}
use Rattle.sw_cmd_disk_compile.proofs.watched.take_out_all.Goals as goal

pub paths-init : goal.paths-init
paths-init g c = record { covers = c.requires; kept = refl }

pub paths-preserved : goal.paths-preserved
paths-preserved g c = record {
  covers = covers_next c.args.paths.now c.paths.path-index c.path-item.result c.as_str.result.now c.paths.keeper.folder c.take_out.new.keeper.folder c.paths-test.true
      c.path-item.is c.as_str.ensures c.take_out.ensures.limits c.take_out.ensures.folder c.paths.invariant.covers;
  kept = c.take_out.ensures.kept ∙ c.paths.invariant.kept;
}

pub returns-clause-folder : goal.returns-clause-folder
returns-clause-folder g c = covers_last c.args.paths.now c.paths.path-index c.paths.keeper.folder c.paths-test.false c.paths.invariant.covers
