use Rattle.sw_eval_walk.specs.Variables.{owner_of}
use Rattle.sw_eval_questions.proofs.Steps.{did_err, did_then, did_plain}
use Rattle.sw_eval_walk.proofs.walk.Walk.owner_of.Goals as goal

pub returns-in_err-a : goal.returns-in_err-a
unfolding owner_of
returns-in_err-a g c =
    did_err _ c.in_err-a.ensures.did c.from_residual.ensures

pub returns : goal.returns
unfolding owner_of
returns g c =
    did_then _ c.in_ok-a.ensures.did (did_plain _ c.find.new.self.state _ _ _ (c.named_owner.ensures c.find.new.self.state))
