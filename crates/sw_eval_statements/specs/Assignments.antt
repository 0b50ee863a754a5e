-- Assignments (the Sass specification on variables; places of faults and limits are this project's own). It
-- gives the value that ends the body around it, where there is one.
use Rattle.std.specs.Prelude.{if◌then◌else◌, Option, None}
use Rattle.sw_tree.specs.declared.statement.Assignment.{Assignment}
use Rattle.sw_tree.specs.declared.statement.Variable.{Variable}
use Rattle.sw_tree.specs.declared.expr.Expr.{Expr}
use Rattle.sw_values.specs.declared.plain.Plain.{Plain}
use Rattle.sw_eval_literals.specs.declared.quotients.Parens.{Parens}
use Rattle.sw_eval_literals.specs.declared.quotients.Parens.TheVariants as P
use Rattle.sw_eval_questions.specs.Talk.{Gives, bind}
use Rattle.sw_eval_state.specs.Owners.{is_null}
use Rattle.sw_eval_state.specs.Eval.{Eval}
use Rattle.sw_eval_statements.specs.Flow.{done}
use Rattle.sw_eval_statements.specs.Names.{name_span}
use Rattle.sw_eval_walk.specs.Texts.{plain_value}
use Rattle.sw_eval_walk.specs.Variables.{getting, kept, putting, stored, targeted}

-- ---- `value` is the level below

module _ (value : Parens → Expr → Eval Plain) where
  -- an assignment to a variable without a namespace; nothing where it has its value
  unfoldable pub variable_set : Variable → Eval (Option Plain)
  variable_set x s =
      bind (kept x.flags x.name (name_span x) x.span s)
      (λ k. if k.0 then Gives (None, k.1)
      else bind (plain_value value P.Outside x.value k.1)
      (λ v. bind (stored x.flags.global x.name v.0 (name_span x) x.span v.1) done))

  -- an assignment to a variable behind a namespace: its owner is found behind the value
  unfoldable pub assigned_always : Assignment → Eval (Option Plain)
  assigned_always x s =
      bind (plain_value value P.Outside x.value s)
      (λ v. bind (targeted x.target x.target_span x.span v.1) (λ o. bind (putting o.0 v.0 x.span o.1) done))

  -- with `!default` it is found before, and is given a value where it is null
  unfoldable pub assigned_default : Assignment → Eval (Option Plain)
  assigned_default x s =
      bind (targeted x.target x.target_span x.span s)
      (λ o. bind (getting o.0 x.span o.1)
      (λ k. if is_null k.0
      then bind (plain_value value P.Outside x.value k.1) (λ v. bind (putting o.0 v.0 x.span v.1) done)
      else Gives (None, k.1)))

  unfoldable pub assigned : Assignment → Eval (Option Plain)
  assigned x s = if x.flags.default then assigned_default x s else assigned_always x s
