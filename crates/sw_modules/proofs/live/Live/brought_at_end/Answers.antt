use Rattle.std.proofs.Common.{◌≡◌, Some, rules}
use Rattle.sw_modules.specs.State.{last_open, module_of}
use Rattle.sw_modules.specs.Uses.{no_uses}
use Rattle.sw_modules.proofs.Using.{brought_is}
use Rattle.sw_modules.proofs.live.Live.brought_at_end.Goals as goal

pub returns : goal.returns
returns c =
    let held_is : c.in_ok-held.held ≡ module_of c.args.finish.now no_uses = search rules in
    let last : last_open c.args.self.now.opened ≡ Some c.in-Some.load.now = search rules in
    brought_is c.args.how.now c.args.finish.now c.in_ok-held.held c.in-Some.load.now c.args.self.now c.brought_of.result
    held_is last c.brought_of.ensures
