use Rattle.sw_eval_statements.specs.AtRules.{root_without}
use Rattle.sw_eval_questions.proofs.Steps.{no_memory_by, gives_state}
use Rattle.sw_eval_statements.proofs.at_rules.root_without.Goals as goal

pub returns-in_err-enter_root : goal.returns-in_err-enter_root
unfolding root_without
returns-in_err-enter_root g c =
    no_memory_by _ _ _ _ _ _ _ _ c.in_err-enter_root.ensures c.from_residual.ensures

pub returns : goal.returns
unfolding root_without
returns g c =
    rw (gives_state c.in_ok-enter_root.ensures) c.nested_block.ensures
