use Rattle.sw_rows_announcer.specs.Announcing.{end_of}
use Rattle.sw_rows_announcer.proofs.turn.end.Goals as goal

pub returns-in_err-say-clause-did : goal.returns-in_err-say-clause-did
returns-in_err-say-clause-did g c = c.say.ensures.did (end_of c.args.sheet.now c.args.path.now)

pub returns-in_err-end_of-clause-did : goal.returns-in_err-end_of-clause-did
returns-in_err-end_of-clause-did g c = c.say.ensures.did (end_of c.args.sheet.now c.args.path.now)

pub returns-clause-did : goal.returns-clause-did
returns-clause-did g c = c.say.ensures.did (end_of c.args.sheet.now c.args.path.now)
