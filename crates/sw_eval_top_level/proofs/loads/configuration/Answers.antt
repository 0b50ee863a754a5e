use Rattle.sw_eval_questions.proofs.Steps.{no_memory}
use Rattle.sw_eval_top_level.proofs.loads.configuration.Goals as goal

pub returns-in_err-passed : goal.returns-in_err-passed
returns-in_err-passed g c = no_memory _ c.args.walk.now.state _ _ _ c.from_residual.ensures
