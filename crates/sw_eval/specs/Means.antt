-- What a sheet means: the talk that its evaluation is (the Sass specification on variables and modules; places of
-- faults and limits are this project's own).
use Rattle.std.specs.Prelude.{ℕ, zero, suc, List, [], Option}
use Rattle.sw_text.specs.declared.fault.FaultCode.TheVariants as C
use Rattle.sw_text.specs.declared.place.Span.{Span}
use Rattle.sw_tree.specs.declared.callable.Param.{Param}
use Rattle.sw_tree.specs.declared.expr.Expr.{Expr}
use Rattle.sw_tree.specs.declared.statement.Statement.{Statement}
use Rattle.sw_values.specs.declared.plain.Plain.{Plain}
use Rattle.sw_eval_literals.specs.declared.quotients.Parens.{Parens}
use Rattle.sw_world.specs.Body.{BodyOf, Job}
use Rattle.sw_world.specs.Laws.{most_asked}
use Rattle.sw_eval_questions.specs.Talk.{Fails, run}
use Rattle.sw_eval_questions.specs.Asking.{fault}
use Rattle.sw_eval_state.specs.Begin.{begin}
use Rattle.sw_eval_state.specs.Left.{end_of}
use Rattle.sw_eval_state.specs.Eval.{Eval}
use Rattle.sw_eval_state.specs.declared.entries.Entry.{Entry}
use Rattle.sw_eval_expressions.specs.Expressions.{value_one}
use Rattle.sw_eval_statements.specs.Includes.{run_body}
use Rattle.sw_eval_statements.specs.Places.{place_of}
use Rattle.sw_eval_statements.specs.Statements.{does_placed}
use Rattle.sw_eval_top_level.specs.Tops.{tops, rest}

-- nested no deeper than the number: expressions, bodies of what is called, and statements
unfoldable mutual
  pub value_to : ℕ → Parens → Expr → Eval Plain
  value_to zero parens e s = Fails (fault C.Depth e.span)
  value_to (suc depth) parens e s = value_one (value_to depth) (enter_to depth) parens e s

  pub enter_to : ℕ → Span → Entry → List Param → List Statement → Eval (Option Plain)
  enter_to zero span e params xs s = Fails (fault C.Depth span)
  enter_to (suc depth) span e params xs s = run_body (value_to depth) (does_to depth) span e params xs s

  pub does_to : ℕ → Statement → Eval (Option Plain)
  does_to zero x s = Fails (fault C.Depth (place_of x))
  does_to (suc depth) x s = does_placed (value_to depth) (does_to depth) (enter_to depth) x s

-- the statements of a sheet from a number on, in a module of this configuration; the expressions of loads stand in
-- statements
abbrev pub from : Job → ℕ → Eval (Unit {0})
from job = rest (value_to 999) (does_to 1000) job.config job.sheet.statements

unfoldable pub body : BodyOf
body job given =
    run (end_of job.sheet) job.path most_asked []
    (tops (value_to 999) (does_to 1000) job.config 0 job.sheet.statements begin) given
