use Rattle.sw_keeper.proofs.Tables.{kept_all_front}
use Rattle.sw_keeper.proofs.keeper.keep_runs.Goals as goal

pub returns-then-has_in_front-clause-ok : goal.returns-then-has_in_front-clause-ok
returns-then-has_in_front-clause-ok g c = kept_all_front c.args.kept.now c.args.runs.now c.if-has_in_front.ensures
