use Rattle.sw_eval_state.proofs.Answering.{out_of_memory}
use Rattle.sw_eval_state.proofs.Large.{too_large, none_of}
use Rattle.sw_eval_state.proofs.state.State.rule_opening.Goals as goal

pub returns-in_err-text : goal.returns-in_err-text
returns-in_err-text c = out_of_memory _ _ _ c.from_residual.ensures

pub returns-in-None : goal.returns-in-None
returns-in-None c =
    rw (too_large c.args.selectors c.args.span.now c.args.self.now (none_of _ _ _ c.in_ok-text.ensures c.in-None.is)) (c.fails.ensures c.args.self.now)
