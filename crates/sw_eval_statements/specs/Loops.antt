-- Loops over lists and numbers (the Sass specification on flow control; that a loop has one frame for all its turns, and
-- the places of faults and limits, are this project's own).
use Rattle.std.specs.Prelude.{ℕ, zero, suc, nat_lt, if◌then◌else◌, List, [], ◌∷◌, Option, None}
use Rattle.sw_text.specs.declared.fault.FaultCode.TheVariants as C
use Rattle.sw_tree.specs.declared.expr.Expr.{Expr}
use Rattle.sw_tree.specs.declared.statement.Each.{Each}
use Rattle.sw_tree.specs.declared.statement.For.{For}
use Rattle.sw_tree.specs.declared.statement.Statement.{Statement}
use Rattle.sw_values.specs.declared.plain.Plain.{Plain}
use Rattle.sw_values.specs.Items.{items_of}
use Rattle.sw_scope.specs.declared.mark.FrameKind.TheVariants as F
use Rattle.sw_eval_literals.specs.declared.quotients.Parens.{Parens}
use Rattle.sw_eval_literals.specs.declared.quotients.Parens.TheVariants as P
use Rattle.sw_eval_literals.specs.Counting.{Count, counting}
use Rattle.sw_eval_questions.specs.Talk.{Gives, Fails, bind}
use Rattle.sw_eval_questions.specs.Asking.{fault}
use Rattle.sw_eval_questions.specs.Refusals.{answer}
use Rattle.sw_eval_state.specs.Begin.{spent}
use Rattle.sw_eval_state.specs.Scope.{entered, left}
use Rattle.sw_eval_state.specs.Loop_variables.{null_declared, nulls_declared, apart, counted_to}
use Rattle.sw_eval_state.specs.Eval.{Eval}
use Rattle.sw_eval_statements.specs.Flow.{after, block}
use Rattle.sw_eval_walk.specs.Texts.{plain_value}

-- ---- one level: `value` and `does` are the levels below

module _ (does : Statement → Eval (Option Plain)) where
  -- a turn for each element
  abbrev pub each : Each → List Plain → Eval (Option Plain)
  each x [] s = Gives (None, s)
  each x (v ∷ vs) s =
      bind (spent x.span s)
      (λ t. bind (apart x.names v x.value.span t.1)
      (λ u. bind (block does x.block u.1) (λ r. after r.0 (each x vs) r.1)))

  -- in one frame for all turns
  unfoldable pub each_over : Each → List Plain → Eval (Option Plain)
  each_over x vs s =
      bind (each x vs (nulls_declared x.names (entered F.Flow s))) (λ r. Gives (r.0, left r.1))

  -- a turn for each number from this turn on, with so many tests
  abbrev pub count : For → Count → ℕ → ℕ → Eval (Option Plain)
  count x c turn zero s = Fails (fault C.Turns x.span)
  count x c turn (suc tests) s =
      if nat_lt turn c.turns
      then bind (spent x.span s)
      (λ t. bind (block does x.block (counted_to x.name c turn t.1)) (λ r. after r.0 (count x c (suc turn) tests) r.1))
      else Gives (None, s)

  -- there is a test more than turns
  unfoldable pub counts : For → Count → Eval (Option Plain)
  counts x c s = count x c 0 (suc s.turns) s

  -- in one frame for all turns
  unfoldable pub count_over : For → Count → Eval (Option Plain)
  count_over x c s =
      bind (counts x c (null_declared x.name (entered F.Flow s))) (λ r. Gives (r.0, left r.1))

module _ (value : Parens → Expr → Eval Plain) where
  unfoldable pub elements : Each → Eval (List Plain)
  elements x s = bind (value P.Outside x.value s) (λ v. Gives (items_of v.0, v.1))

  unfoldable pub bounds : For → Eval Count
  bounds x s =
      bind (plain_value value P.Outside x.bounds.from s)
      (λ f. bind (plain_value value P.Outside x.bounds.to f.1)
      (λ t. answer (counting f.0 t.0 x.bounds.through x.span) t.1))

module _ (value : Parens → Expr → Eval Plain) (does : Statement → Eval (Option Plain)) where
  -- the list is evaluated before the frame is opened
  unfoldable pub each_in : Each → Eval (Option Plain)
  each_in x s = bind (elements value x s) (λ vs. each_over does x vs.0 vs.1)

  -- so are both bounds
  unfoldable pub count_in : For → Eval (Option Plain)
  count_in x s = bind (bounds value x s) (λ c. count_over does x c.0 c.1)
