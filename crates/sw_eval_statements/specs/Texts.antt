-- Texts of statements (the Sass specification on interpolation).
use Rattle.std.specs.Prelude.{ℕ, List, [], Option, Some, None}
use Rattle.sw_tree.specs.declared.expr.Expr.{Expr}
use Rattle.sw_tree.specs.declared.text.Text.{Text}
use Rattle.sw_values.specs.declared.plain.Plain.{Plain}
use Rattle.sw_eval_literals.specs.declared.quotients.Parens.{Parens}
use Rattle.sw_eval_literals.specs.declared.quotients.Parens.TheVariants as P
use Rattle.sw_eval_questions.specs.Talk.{Gives}
use Rattle.sw_eval_state.specs.Eval.{Eval}
use Rattle.sw_eval_walk.specs.declared.texts.TextKind.TheVariants as K
use Rattle.sw_eval_walk.specs.Texts.{text}

-- `value` is the level below
module _ (value : Parens → Expr → Eval Plain) where
  -- a text of a statement, with the values in it
  unfoldable pub sheet_text : Text → Eval (List ℕ)
  sheet_text x s = text value K.Sheet P.Outside x.parts x.span s

  -- one that may be left out
  abbrev pub raw_text : Option Text → Eval (List ℕ)
  raw_text None s = Gives ([], s)
  raw_text (Some x) s = sheet_text x s
