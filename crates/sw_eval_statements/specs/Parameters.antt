-- The parameters of what is called, and what fills them (the Sass specification on arguments).
use Rattle.std.specs.Prelude.{List, [], ◌∷◌, Option, Some, None}
use Rattle.sw_tree.specs.declared.callable.Param.{Param}
use Rattle.sw_tree.specs.declared.expr.Expr.{Expr}
use Rattle.sw_values.specs.declared.plain.Plain.{Plain}
use Rattle.sw_values.specs.declared.plain.Plain.TheVariants as N
use Rattle.sw_scope.specs.declared.slots.Slot.{Slot}
use Rattle.sw_scope.specs.declared.slots.Slot.TheVariants.{Filled, Default}
use Rattle.sw_eval_literals.specs.declared.quotients.Parens.{Parens}
use Rattle.sw_eval_literals.specs.declared.quotients.Parens.TheVariants as P
use Rattle.sw_eval_questions.specs.Talk.{Gives, bind}
use Rattle.sw_eval_state.specs.Entering.{given}
use Rattle.sw_eval_state.specs.Eval.{Eval}
use Rattle.sw_eval_calls.specs.Passing.{Slots, default_at}
use Rattle.sw_eval_walk.specs.Texts.{plain_value}

-- `value` is the level below
module _ (value : Parens → Expr → Eval Plain) where
  abbrev pub default_value : Option Expr → Eval Plain
  default_value None s = Gives (N.Null, s)
  default_value (Some e) s = plain_value value P.Outside e s

  abbrev pub slot_value : List Param → Slot → Eval Plain
  slot_value params (Filled v) s = Gives (v, s)
  slot_value params (Default place) s = default_value (default_at params place) s

  -- the parameters, in order: a default may use those before it
  abbrev pub fill : List Param → Slots → Eval (Unit {0})
  fill params [] s = Gives (tt, s)
  fill params (slot ∷ slots) s =
      bind (slot_value params slot.1 s) (λ v. fill params slots (given slot.0 v.0 v.1))
