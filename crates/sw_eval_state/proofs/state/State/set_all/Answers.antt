use Rattle.std.proofs.Common.{sym, ◌∙◌, ap, arith}
use Rattle.sw_eval_questions.specs.Talk.{Gives}
use Rattle.sw_eval_questions.proofs.Steps.{gives_state}
use Rattle.sw_eval_state.specs.declared.state.State.{State}
use Rattle.sw_eval_state.proofs.Plain.{plain_memory, set_next, set_none, set_end}
use Rattle.sw_eval_state.proofs.state.State.set_all.Goals as goal

pub returns-then-at-values : goal.returns-then-at-values
returns-then-at-values c =
    ap (λ (u : State). Gives (tt, u)) (sym c.names.invariant ∙ set_none c.args.names.now c.args.values.now c.names.at c.names.self (omega arith))

pub returns-in_err-set_shared : goal.returns-in_err-set_shared
returns-in_err-set_shared c = plain_memory _ _ _ _ _ _ c.in_err-set_shared.ensures c.from_residual.ensures

pub names-preserved : goal.names-preserved
names-preserved c =
    set_next c.args.names.now c.args.values.now c.names.at _ _ c.names.self _ (omega arith) (omega arith) c.index-names-at.is c.index-values-at.is (gives_state c.in_ok-set_shared.ensures) ∙ c.names.invariant

pub returns : goal.returns
returns c =
    ap (λ (u : State). Gives (tt, u)) (sym c.names.invariant ∙ set_end c.args.names.now c.args.values.now c.names.at c.names.self (omega arith))
