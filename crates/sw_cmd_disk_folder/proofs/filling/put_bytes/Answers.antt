use Rattle.sw_cmd_disk_folder.proofs.Steps.{put_grows}
use Rattle.sw_cmd_disk_folder.proofs.filling.put_bytes.Goals as goal

pub returns-in-Ok-clause-count : goal.returns-in-Ok-clause-count
returns-in-Ok-clause-count g c =
    put_grows (g.F.Holder.folder c.args.holder.now) (g.F.Holder.folder c.put.new.self) c.args.path.now c.args.bytes.now c.requires c.in-Ok.ensures.ok
