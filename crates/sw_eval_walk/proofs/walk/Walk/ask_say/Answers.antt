use Rattle.std.proofs.Common.{refl}
use Rattle.sw_eval_questions.specs.Talk.{Says}
use Rattle.sw_eval_questions.proofs.Steps.{no_memory}
use Rattle.sw_eval_questions.proofs.Heard.{heard}
use Rattle.sw_eval_walk.proofs.walk.Walk.ask_say.Goals as goal

pub returns-in_err-place : goal.returns-in_err-place
returns-in_err-place g c =
    no_memory _ c.args.self.now.state _ _ _ c.from_residual.ensures

pub returns : goal.returns
returns g c =
    heard _ _ c.args.self.now.asked c.ask.new.asked c.args.self.now.state (c.ask.ensures.did (Says c.args.kind c.args.span.now c.args.text) (rw c.in_ok-place.ensures refl))
