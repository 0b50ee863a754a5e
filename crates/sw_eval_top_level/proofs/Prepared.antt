-- The configuration of a load, as it is known or evaluated.
use Rattle.std.proofs.Common.{◌≡◌, List, true, false, Some, None, refl}
use Rattle.sw_text.specs.declared.fault.FaultCode.TheVariants as C
use Rattle.sw_tree.specs.declared.expr.Expr.{Expr}
use Rattle.sw_values.specs.declared.plain.Plain.{Plain}
use Rattle.sw_eval_literals.specs.declared.quotients.Parens.{Parens}
use Rattle.sw_world.specs.declared.question.Given.{Given}
use Rattle.sw_eval_configurations.specs.Loads.{Loading, span_of}
use Rattle.sw_eval_configurations.specs.Passing.{Settings}
use Rattle.sw_eval_questions.specs.Talk.{Gives, Fails, bind}
use Rattle.sw_eval_questions.specs.Asking.{fault}
use Rattle.sw_eval_state.specs.Eval.{Eval}
use Rattle.sw_eval_state.specs.declared.state.State.{State}
use Rattle.sw_eval_top_level.specs.Loading.{configuration, prepared}

module _ (value : Parens → Expr → Eval Plain) (config : Settings) (l : Loading) where
  pub prepared_known : (given : List Given) (s : State) → s.given ≡ Some given → prepared value config l s ≡ Gives (given, s)
  unfolding prepared
  prepared_known given s is = rw is refl

  pub prepared_late : (s : State) → s.given ≡ None → s.late ≡ true → prepared value config l s ≡ Fails (fault C.LateUse (span_of l))
  unfolding prepared
  prepared_late s none late = rw (none, late) refl

  pub prepared_now : (s : State) → s.given ≡ None → s.late ≡ false → prepared value config l s ≡ bind (configuration value config l s) (λ r. Gives (r.0, record r.1 { given = Some r.0 }))
  unfolding prepared
  prepared_now s none early = rw (none, early) refl
