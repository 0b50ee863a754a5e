use Rattle.sw_eval_statements.specs.AtRules.{at_root}
use Rattle.sw_eval_questions.proofs.Steps.{did_plain}
use Rattle.sw_eval_statements.proofs.at_rules.at_root.Goals as goal

pub returns-then-is_some : goal.returns-then-is_some
unfolding at_root
returns-then-is_some g c =
    rw (← c.is_some.ensures, c.if-is_some.true) (did_plain _ c.args.walk.now.state _ _ _ (c.fails.ensures c.args.walk.now.state))

pub returns-in-Some : goal.returns-in-Some
unfolding at_root
returns-in-Some g c =
    rw (← c.is_some.ensures, c.if-is_some.false) (rw c.in-Some.is (rw c.as_slice-block.ensures at c.root_with.ensures))

pub returns-in-None : goal.returns-in-None
unfolding at_root
returns-in-None g c =
    rw (← c.is_some.ensures, c.if-is_some.false) (rw c.in-None.is (rw c.as_slice-block.ensures at c.root_without.ensures))
