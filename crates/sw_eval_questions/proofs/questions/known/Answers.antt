use Rattle.sw_world.specs.Laws.{most_asked}
use Rattle.sw_eval_questions.proofs.Steps.{ask_full, ask_takes}
use Rattle.sw_eval_questions.specs.Did.{nothing}
use Rattle.sw_eval_questions.proofs.Names.{number_few}
use Rattle.sw_eval_questions.proofs.Heard.{fails_ok}
use Rattle.sw_eval_questions.proofs.questions.known.Goals as goal

pub returns-then-asked-ge1000000-clause-did : goal.returns-then-asked-ge1000000-clause-did
unfolding most_asked
returns-then-asked-ge1000000-clause-did g c = λ q op is. ask_full q c.args.span.now nothing _ _ _ c.if-asked-ge1000000.true c.fails.ensures

pub returns-then-asked-ge1000000-clause-few : goal.returns-then-asked-ge1000000-clause-few
returns-then-asked-ge1000000-clause-few g c = fails_ok c.fails.result _ nothing _ c.fails.ensures

pub returns-clause-did : goal.returns-clause-did
unfolding most_asked
returns-clause-did g c = λ q op is.
    ask_takes q op c.args.span.now nothing c.args.asked.now.path c.args.asked.now.pairs.items _ _ c.pair.result.now _ c.if-asked-ge1000000.false is c.pair.ensures c.taken.ensures.did

pub returns-clause-few : goal.returns-clause-few
returns-clause-few g c = number_few c.taken.result _ 1000000 c.taken.ensures.number c.if-asked-ge1000000.false
