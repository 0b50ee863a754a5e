use Rattle.sw_eval_state.specs.Rules.{style_entered}
use Rattle.sw_eval_questions.proofs.Steps.{plain_err, plain_then}
use Rattle.sw_eval_state.proofs.state.State.enter_style.Goals as goal

pub returns-in_err-selectors : goal.returns-in_err-selectors
unfolding style_entered
returns-in_err-selectors c = plain_err _ _ _ _ c.args.self.now _ c.in_err-selectors.ensures c.from_residual.ensures

pub returns : goal.returns
unfolding style_entered
returns c = plain_then _ _ _ _ c.args.self.now _ c.in_ok-selectors.ensures c.rule_opening.ensures
