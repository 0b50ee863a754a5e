use Rattle.std.proofs.Common.{refl, sym, ◌∙◌}
use Rattle.sw_cmd_workload.proofs.Parts.{no_parts, part_put}
use Rattle.sw_cmd_workload.proofs.workload.put_parts.Goals as goal

pub parts-init : goal.parts-init
parts-init g c = record { folder = sym (no_parts c.args.number c.args.keeper.now.folder); kept = refl }

pub parts-preserved : goal.parts-preserved
parts-preserved g c = record {
  folder = part_put c.args.number c.parts.place c.width_of.result c.args.keeper.now.folder c.parts.keeper.folder c.put_part.new.keeper.folder c.width_of.ensures c.parts.invariant.folder c.in_ok-put_part.ensures.folder;
  kept = c.put_part.ensures.kept ∙ c.parts.invariant.kept;
}
