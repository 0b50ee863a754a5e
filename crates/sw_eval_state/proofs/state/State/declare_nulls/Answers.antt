use Rattle.std.proofs.Common.{sym, ◌∙◌, ap, arith}
use Rattle.sw_eval_questions.specs.Talk.{Gives}
use Rattle.sw_eval_questions.proofs.Steps.{gives_state}
use Rattle.sw_eval_questions.proofs.Loops.{drop_all}
use Rattle.sw_eval_state.specs.Loop_variables.{nulls_declared}
use Rattle.sw_eval_state.specs.declared.state.State.{State}
use Rattle.sw_eval_state.proofs.Plain.{plain_memory, nulls_next}
use Rattle.sw_eval_state.proofs.state.State.declare_nulls.Goals as goal

pub returns-in_err-declare_null : goal.returns-in_err-declare_null
returns-in_err-declare_null c = plain_memory _ _ _ _ _ _ c.in_err-declare_null.ensures c.from_residual.ensures

pub loop-name-preserved : goal.loop-name-preserved
loop-name-preserved c =
    nulls_next c.args.names.now c.loop-name.name-index c.name-item.result c.loop-name.self _ c.loop-name-test.true c.name-item.is (gives_state c.in_ok-declare_null.ensures) ∙ c.loop-name.invariant

pub returns : goal.returns
returns c =
    ap (λ (u : State). Gives (tt, u)) (sym c.loop-name.invariant ∙ ap (λ l. nulls_declared l c.loop-name.self) (drop_all c.args.names.now c.loop-name.name-index (omega arith)))
