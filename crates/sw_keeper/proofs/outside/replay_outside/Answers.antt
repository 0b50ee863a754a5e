use Rattle.std.proofs.Common.{rules}
use Rattle.sw_keeper.proofs.Again.{asked_depth}
use Rattle.sw_keeper.proofs.outside.replay_outside.Goals as goal

pub returns-clause-depth : goal.returns-clause-depth
returns-clause-depth g c =
    let same = asked_depth _ _ _ _ _ c.in_ok-replayed.replayed _ _ (c.in_ok-replayed.ensures.to c.requires) in
    search (rules, same)
