use Rattle.std.proofs.Common.{refl}
use Rattle.sw_eval_questions.specs.Talk.{Calls}
use Rattle.sw_eval_questions.proofs.Heard.{heard}
use Rattle.sw_eval_walk.proofs.walk.Walk.ask_call.Goals as goal

pub returns : goal.returns
returns g c = heard _ _ c.args.self.now.asked c.ask.new.asked c.args.self.now.state (c.ask.ensures.did (Calls c.args.name c.args.args) refl)
