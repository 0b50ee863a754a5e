use Rattle.sw_modules.proofs.Below.{recorded}
use Rattle.sw_modules.proofs.live.Live.record.Goals as goal

pub returns-in-Ok-clause-state : goal.returns-in-Ok-clause-state
returns-in-Ok-clause-state c =
    recorded c.args.finish.now c.in_ok-path.path c.args.self.now c.put_out.new.self c.add_module.new.self c.close_into.new.self
    c.in_ok-path.ensures c.in_ok-put_out.ensures.ok c.in-Ok.ensures.ok c.close_into.ensures.after
