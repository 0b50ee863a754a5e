-- Built-in functions other than `if()`.
use Rattle.std.proofs.Common.{◌≡◌, List, Option, refl}
use Rattle.sw_text.specs.declared.place.Span.{Span}
use Rattle.sw_tree.specs.declared.callable.Param.{Param}
use Rattle.sw_tree.specs.declared.expr.Argument.{Argument}
use Rattle.sw_tree.specs.declared.expr.Expr.{Expr}
use Rattle.sw_tree.specs.declared.statement.Statement.{Statement}
use Rattle.sw_values.specs.declared.plain.Plain.{Plain}
use Rattle.sw_eval_literals.specs.declared.quotients.Parens.{Parens}
use Rattle.sw_builtins.specs.declared.built_in.BuiltIn.{BuiltIn}
use Rattle.sw_builtins.specs.declared.built_in.BuiltIn.TheVariants as B
use Rattle.sw_eval_state.specs.Eval.{Eval}
use Rattle.sw_eval_state.specs.declared.entries.Entry.{Entry}
use Rattle.sw_eval_state.specs.declared.state.State.{State}
use Rattle.sw_eval_expressions.specs.Calls.{built_in_call, built_in_by}

module _ (value : Parens → Expr → Eval Plain) (enter : Span → Entry → List Param → List Statement → Eval (Option Plain)) where
  pub no_if : (parens : Parens) (f : BuiltIn) (args : List Argument) (at : Span) (s : State) → (f ≡ B.If → ⊥) → built_in_call value enter parens f args at s ≡ built_in_by value enter parens f args at s
  no_if parens (B.Math x) args at s not = refl
  no_if parens (B.Text x) args at s not = refl
  no_if parens (B.List x) args at s not = refl
  no_if parens (B.Map x) args at s not = refl
  no_if parens (B.Colour x) args at s not = refl
  no_if parens (B.Css x) args at s not = refl
  no_if parens (B.Meta x) args at s not = refl
  no_if parens (B.Asked x) args at s not = refl
  no_if parens (B.Variable x) args at s not = refl
  no_if parens B.If args at s not = absurd (not refl)
