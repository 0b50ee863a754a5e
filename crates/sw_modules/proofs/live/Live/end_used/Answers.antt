use Rattle.std.proofs.Common.{◌≡◌, ◌∙◌, rules}
use Rattle.sw_modules.specs.State.{below, uses_in}
use Rattle.sw_modules.specs.Uses.{uses_counts}
use Rattle.sw_modules.proofs.Below.{used_recorded, use_taken_back_below}
use Rattle.sw_modules.proofs.live.Live.end_used.Goals as goal

pub returns-in-Ok-clause-state : goal.returns-in-Ok-clause-state
returns-in-Ok-clause-state c =
    c.in-Ok.ensures.state
    ∙ used_recorded c.args.how.now c.in_ok-path.path c.args.brought c.args.finish.now c.args.self.now c.use_below.new.self c.in_ok-path.ensures c.in_ok-use_below.ensures.ok

pub returns-in-Err-clause-err : goal.returns-in-Err-clause-err
returns-in-Err-clause-err c =
    let were : c.counts-counts.result ≡ uses_counts (uses_in (below c.args.self.now.opened)) = search rules in
    use_taken_back_below c.args.how.now c.in_ok-path.path c.args.brought c.counts-counts.result c.args.self.now c.use_below.new.self c.record.new.self c.drop_use_below.new.self
    were c.requires.free c.in_ok-use_below.ensures.ok c.in-Err.ensures.err c.drop_use_below.ensures
