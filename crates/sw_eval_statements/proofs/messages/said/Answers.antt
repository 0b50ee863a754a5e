use Rattle.sw_eval_statements.specs.Messages.{said}
use Rattle.sw_eval_questions.proofs.Steps.{did_err, did_then, did_plain}
use Rattle.sw_eval_statements.proofs.messages.said.Goals as goal

pub returns-in_err-noted : goal.returns-in_err-noted
unfolding said
returns-in_err-noted g c =
    did_err _ (did_plain _ _ _ _ _ c.in_err-noted.ensures) c.from_residual.ensures

pub returns-in_err-_said : goal.returns-in_err-_said
unfolding said
returns-in_err-_said g c =
    did_then _ (did_plain _ _ _ _ _ c.in_ok-noted.ensures) (did_err _ (rw c.kind_of.ensures at c.in_err-_said.ensures) c.from_residual-in_err-_said.ensures)

pub returns : goal.returns
unfolding said
returns g c =
    did_then _ (did_plain _ _ _ _ _ c.in_ok-noted.ensures) (did_then _ (rw c.kind_of.ensures at c.in_ok-_said.ensures) (did_plain _ c.ask_say.new.self.state _ _ _ (c.said_by.ensures c.ask_say.new.self.state)))
