use Rattle.std.proofs.Common.{◌≡◌}
use Rattle.sw_cmd_workload.specs.Made.{with_parts}
use Rattle.sw_cmd_workload.proofs.workload.put_parts.Given as goal

abbrev pub invariant-parts : goal.invariant-parts
invariant-parts g l = record {
  folder : l.keeper.folder ≡ with_parts l.number l.place l.initial.keeper.folder;
  kept : l.keeper.kept ≡ l.initial.keeper.kept;
}
