-- The statements of a sheet's top level (the Sass specification on variables and modules; which statements end the
-- loads is this project's own).
use Rattle.std.specs.Prelude.{ℕ, suc, Bool, true, false, ◌||◌, List, [], ◌∷◌, drop, Option, Some, None}
use Rattle.sw_tree.specs.declared.callable.Callable.{Callable}
use Rattle.sw_tree.specs.declared.expr.Expr.{Expr}
use Rattle.sw_tree.specs.declared.statement.Statement.{Statement, out-Statement}
use Rattle.sw_tree.specs.declared.statement.Statement.TheOpen.{Statement-F}
use Rattle.sw_values.specs.declared.plain.Plain.{Plain}
use Rattle.sw_eval_literals.specs.declared.quotients.Parens.{Parens}
use Rattle.sw_eval_configurations.specs.Loads.{Layer, Loading, load_of}
use Rattle.sw_eval_configurations.specs.Passing.{Settings}
use Rattle.sw_eval_questions.specs.Talk.{Talk, Gives, bind}
use Rattle.sw_eval_state.specs.Callables.{with_callable}
use Rattle.sw_eval_state.specs.Eval.{Eval}
use Rattle.sw_eval_state.specs.Left.{callable_of}
use Rattle.sw_eval_state.specs.Output.{numbered}
use Rattle.sw_eval_state.specs.declared.state.State.{State}
use Rattle.sw_eval_top_level.specs.Loading.{load}
use Rattle.sw_eval_top_level.specs.Taking.{preset}

abbrev pub ends_loads_by : Layer → Bool
ends_loads_by (Statement-F.Variable x) = false
ends_loads_by (Statement-F.Assignment x) = false
ends_loads_by (Statement-F.Use x) = false
ends_loads_by (Statement-F.Forward x) = false
ends_loads_by (Statement-F.Charset at) = false
ends_loads_by (Statement-F.Comment text) = false
ends_loads_by _ = true

-- no load may stand behind a statement, but behind assignments, comments and other loads
unfoldable pub ends_loads : Statement → Bool
ends_loads x = ends_loads_by (out-Statement x)

unfoldable pub marked : ℕ → Statement → State → State
marked number x s = record s { css = numbered number s.css; late = s.late || ends_loads x }

-- `value` and `does` are what the expressions of loads and the other statements mean, in a module of this configuration
module _ (value : Parens → Expr → Eval Plain) (does : Statement → Eval (Option Plain)) (config : Settings) where
  abbrev pub unless_preset : Statement → Bool × State → Talk (Unit {0} × State)
  unless_preset x (true, s) = Gives (tt, s)
  unless_preset x (false, s) = bind (does x s) (λ r. Gives (tt, r.1))

  -- a function or a mixin is known from here on; a variable may have its configured value
  abbrev pub other : Statement → Option Callable → Eval (Unit {0})
  other x (Some c) s = Gives (tt, with_callable c s)
  other x None s = unless_preset x (preset config x s)

  abbrev pub top_by : ℕ → Statement → Option Loading → Eval (Unit {0})
  top_by number x (Some l) s = load value config l s
  top_by number x None s = other x (callable_of x) (marked number x s)

  -- a statement of the top level, with its number: a load, or another one
  unfoldable pub top : ℕ → Statement → Eval (Unit {0})
  top number x s = top_by number x (load_of x) s

  -- the statements of the top level from this number on, in order
  unfoldable pub tops : ℕ → List Statement → Eval (Unit {0})
  tops number [] s = Gives (tt, s)
  tops number (x ∷ xs) s = bind (top number x s) (λ r. tops (suc number) xs r.1)

  -- the same of those of a sheet
  abbrev pub rest : List Statement → ℕ → Eval (Unit {0})
  rest all number = tops number (drop number all)
