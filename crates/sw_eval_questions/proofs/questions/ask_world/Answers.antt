use Rattle.sw_world.specs.Laws.{most_asked}
use Rattle.sw_eval_questions.proofs.Steps.{ask_asks, no_memory}
use Rattle.sw_eval_questions.specs.Did.{nothing}
use Rattle.sw_eval_questions.proofs.Names.{number_few}
use Rattle.sw_eval_questions.proofs.questions.ask_world.Goals as goal

pub returns-in_err-answer-clause-did : goal.returns-in_err-answer-clause-did
returns-in_err-answer-clause-did g c = λ q at is.
    rw (c.in_err-answer.ensures.pairs, c.in_err-answer.ensures.err) (no_memory _ nothing _ _ _ (rw c.in_err-answer.ensures.memory at c.from_residual.ensures))

pub returns-clause-did : goal.returns-clause-did
unfolding most_asked
returns-clause-did g c = λ q at is.
    let grew = rw c.in_ok-answer.ensures.pairs at c.push.ensures in
    ask_asks q c.args.op at nothing c.args.asked.now.path c.args.asked.now.pairs.items _ _ _ _ c.in_ok-answer.answer _ c.requires.few c.requires.at_end is c.requires.plain c.in_ok-answer.ensures.given c.in_ok-answer.ensures.fits grew (c.taken-result.ensures.did)

pub returns-clause-few : goal.returns-clause-few
returns-clause-few g c = number_few c.taken-result.result _ 1000000 c.taken-result.ensures.number c.requires.few
