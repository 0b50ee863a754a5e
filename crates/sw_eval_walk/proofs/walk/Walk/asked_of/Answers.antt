use Rattle.sw_eval_walk.specs.Existence.{asked_of}
use Rattle.sw_eval_questions.proofs.Steps.{did_then}
use Rattle.sw_eval_questions.proofs.Refusals.{did_answer, did_refused}
use Rattle.sw_eval_walk.proofs.walk.Walk.asked_of.Goals as goal

pub returns-in_err-name : goal.returns-in_err-name
unfolding asked_of
returns-in_err-name g c =
    did_refused _ _ _ _ c.args.self.now.state _ _ c.in_err-name.ensures c.from_residual.ensures

pub returns-in_err-space : goal.returns-in_err-space
unfolding asked_of
returns-in_err-space g c =
    did_then _ (did_answer _ _ c.args.self.now.state _ _ c.in_ok-name.ensures) (did_refused _ _ _ _ c.args.self.now.state _ _ c.in_err-space.ensures c.from_residual-in_err-space.ensures)

pub returns-in-Some : goal.returns-in-Some
unfolding asked_of
returns-in-Some g c =
    did_then _ (did_answer _ _ c.args.self.now.state _ _ c.in_ok-name.ensures) (did_then _ (did_answer _ _ c.args.self.now.state _ _ c.in_ok-space.ensures) (rw c.in-Some.is c.member_exists.ensures))

pub returns : goal.returns
unfolding asked_of
returns g c =
    did_then _ (did_answer _ _ c.args.self.now.state _ _ c.in_ok-name.ensures) (did_then _ (did_answer _ _ c.args.self.now.state _ _ c.in_ok-space.ensures) (rw c.in-None.is c.kind_exists.ensures))
