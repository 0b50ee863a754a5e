use Rattle.sw_keeper.proofs.Ends.{not_empty, text_cause, config_cause}
use Rattle.sw_keeper.proofs.reading.cause_anew.Goals as goal

pub returns-in-Some : goal.returns-in-Some
returns-in-Some g c =
    config_cause c.args.within.now.kept.now c.args.opening.now.path c.args.opening.now.text c.args.opening.now.config c.runs-runs.result.now c.in-Some.field-0.now c.runs-runs.ensures.same c.in-Some.ensures c.requires

pub returns-in-None : goal.returns-in-None
returns-in-None g c =
    text_cause c.args.within.now.kept.now c.args.opening.now.path c.args.opening.now.text c.args.opening.now.config c.runs-runs.result.now c.runs-runs.ensures.same (not_empty c.runs-runs.result.now c.if-is_empty.ensures) c.in-None.ensures
