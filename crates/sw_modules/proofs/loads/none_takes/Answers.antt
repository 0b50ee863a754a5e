use Rattle.std.proofs.Common.{sym}
use Rattle.sw_modules.proofs.Using.{none_taken}
use Rattle.sw_modules.proofs.loads.none_takes.Goals as goal

pub returns : goal.returns
returns c = sym (none_taken c.args.how.now c.args.brought.now)
