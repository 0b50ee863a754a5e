use Rattle.std.proofs.Common.{refl}
use Rattle.sw_eval_questions.specs.Talk.{Finds}
use Rattle.sw_eval_walk.specs.Going.{finding}
use Rattle.sw_eval_questions.proofs.Steps.{no_memory}
use Rattle.sw_eval_questions.proofs.Heard.{heard}
use Rattle.sw_eval_walk.proofs.walk.Walk.find.Goals as goal

pub returns-in_err-site-clause-did : goal.returns-in_err-site-clause-did
returns-in_err-site-clause-did g c =
    no_memory _ c.args.self.now.state _ _ _ c.from_residual.ensures

pub returns-in_err-name-clause-did : goal.returns-in_err-name-clause-did
returns-in_err-name-clause-did g c =
    no_memory _ c.args.self.now.state _ _ _ c.from_residual-in_err-name.ensures

pub returns-clause-did : goal.returns-clause-did
unfolding finding
returns-clause-did g c =
    heard _ _ c.args.self.now.asked c.ask.new.asked c.args.self.now.state (c.ask.ensures.did (Finds c.args.self.now.state.here.site c.args.space c.args.kind c.args.name.now) (rw (c.in_ok-site.ensures, c.in_ok-name.ensures) refl))
