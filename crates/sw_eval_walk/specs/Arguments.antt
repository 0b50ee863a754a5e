-- What a call passes (the Sass specification on arguments).
use Rattle.std.specs.Prelude.{List, [], ◌∷◌, ◌++◌}
use Rattle.sw_tree.specs.declared.expr.Argument.{Argument}
use Rattle.sw_tree.specs.declared.expr.Expr.{Expr}
use Rattle.sw_values.specs.declared.plain.Plain.{Plain}
use Rattle.sw_scope.specs.declared.passed.Passed.{Passed}
use Rattle.sw_eval_literals.specs.declared.quotients.Parens.{Parens}
use Rattle.sw_eval_questions.specs.Talk.{Gives, bind}
use Rattle.sw_eval_state.specs.Eval.{Eval}
use Rattle.sw_eval_calls.specs.Passing.{passed_on}

-- `value` is the level below
module _ (value : Parens → Expr → Eval Plain) where
  -- the values of arguments behind those that are passed
  abbrev pub arguments : Parens → List Argument → Passed → Eval Passed
  arguments parens [] done s = Gives (done, s)
  arguments parens (a ∷ args) done s =
      bind (value parens a.value s) (λ v. arguments parens args (passed_on done a v.0) v.1)

  -- the values of arguments behind those that are done
  abbrev pub argument_values : Parens → List Argument → List Plain → Eval (List Plain)
  argument_values parens [] done s = Gives (done, s)
  argument_values parens (a ∷ args) done s =
      bind (value parens a.value s) (λ v. argument_values parens args (done ++ v.0 ∷ []) v.1)
