use Rattle.std.proofs.Common.{sym, ◌∙◌}
use Rattle.sw_eval_state.specs.Rules.{rule_entered}
use Rattle.sw_eval_state.proofs.state.State.enter_rule.Goals as goal

pub returns-then-are_keyframes : goal.returns-then-are_keyframes
unfolding rule_entered
returns-then-are_keyframes c = rw (sym c.are_keyframes.ensures ∙ c.if-are_keyframes.true) c.enter_frame.ensures

pub returns : goal.returns
unfolding rule_entered
returns c = rw (sym c.are_keyframes.ensures ∙ c.if-are_keyframes.false) c.enter_style.ensures
