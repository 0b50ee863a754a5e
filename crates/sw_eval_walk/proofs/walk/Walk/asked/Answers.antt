use Rattle.sw_eval_questions.proofs.Steps.{did_then, did_plain}
use Rattle.sw_eval_questions.proofs.Refusals.{did_answer, did_refused}
use Rattle.sw_eval_walk.proofs.walk.Walk.asked.Goals as goal

pub returns-in_err-name-in-VariableExists : goal.returns-in_err-name-in-VariableExists
returns-in_err-name-in-VariableExists g c =
    rw c.in-VariableExists.is (did_refused _ _ _ _ c.args.self.now.state _ _ c.in_err-name-in-VariableExists.ensures c.from_residual.ensures)

pub returns-in_ok-name-in-VariableExists : goal.returns-in_ok-name-in-VariableExists
returns-in_ok-name-in-VariableExists g c =
    rw c.in-VariableExists.is (did_then _ (did_answer _ _ c.args.self.now.state _ _ c.in_ok-name-in-VariableExists.ensures) c.variable_exists.ensures)

pub returns-in-GlobalVariableExists : goal.returns-in-GlobalVariableExists
returns-in-GlobalVariableExists g c =
    rw c.in-GlobalVariableExists.is c.asked_of.ensures

pub returns-in-FunctionExists : goal.returns-in-FunctionExists
returns-in-FunctionExists g c =
    rw c.in-FunctionExists.is c.asked_of-in-FunctionExists.ensures

pub returns-in-MixinExists : goal.returns-in-MixinExists
returns-in-MixinExists g c =
    rw c.in-MixinExists.is c.asked_of-in-MixinExists.ensures

pub returns-in-ContentExists : goal.returns-in-ContentExists
returns-in-ContentExists g c =
    rw c.in-ContentExists.is (did_plain _ c.args.self.now.state _ _ _ c.content_exists.ensures)
