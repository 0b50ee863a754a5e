use Rattle.sw_eval_walk.specs.Callees.{called}
use Rattle.sw_eval_questions.proofs.Steps.{did_value}
use Rattle.sw_tree.specs.declared.text.Parts as T
use Rattle.sw_eval_walk.proofs.TextOpens.{out_Mixed}
use Rattle.sw_eval_walk.proofs.walk.Walk.called.Goals as goal

pub returns-in-Plain : goal.returns-in-Plain
unfolding called T.out-Parts denote.Hole.Carrier.out
returns-in-Plain g c =
    rw c.in-Plain.is c.plain_called.ensures

pub returns-in-Mixed : goal.returns-in-Mixed
unfolding called
returns-in-Mixed g c =
    rw (c.in-Mixed.is, out_Mixed) (did_value _ c.args.self.now.state _ _)
