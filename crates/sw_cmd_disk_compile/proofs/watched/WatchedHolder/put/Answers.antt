use Rattle.sw_cmd_disk_compile.proofs.Clearing.{covers_either}
use Rattle.sw_cmd_disk_compile.proofs.watched.WatchedHolder.put.Goals as goal

pub invariant_of-self-2 : goal.invariant_of-self-2
invariant_of-self-2 g c =
    covers_either c.put.result c.self.inside.paths c.push.new.self c.in_ok-new.field-0 c.args.path.now c.args.bytes.now c.self.inside.keeper c.put.new.self
    c.in_ok-push.ensures.ok c.in_ok-new.ensures c.put.ensures.ok c.put.ensures.unchanged c.self.invariant
