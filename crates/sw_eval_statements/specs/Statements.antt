-- What a statement does (the Sass specification on statements; places of faults and limits are this project's own). It
-- gives the value that ends the body around it, where there is one.
use Rattle.std.specs.Prelude.{if◌then◌else◌, List, Option, Some, None}
use Rattle.sw_text.specs.declared.fault.FaultCode.TheVariants as C
use Rattle.sw_text.specs.declared.place.Span.{Span}
use Rattle.sw_tree.specs.declared.callable.Param.{Param}
use Rattle.sw_tree.specs.declared.statement.Return.{Return}
use Rattle.sw_tree.specs.declared.statement.Statement.{Statement, out-Statement}
use Rattle.sw_tree.specs.declared.statement.Statement.TheOpen.{Statement-F}
use Rattle.sw_tree.specs.declared.expr.Expr.{Expr}
use Rattle.sw_tree.specs.declared.text.Text.{Text}
use Rattle.sw_values.specs.declared.plain.Plain.{Plain}
use Rattle.sw_scope.specs.declared.mark.FrameKind.TheVariants as F
use Rattle.sw_eval_literals.specs.declared.quotients.Parens.{Parens}
use Rattle.sw_eval_literals.specs.declared.quotients.Parens.TheVariants as P
use Rattle.sw_eval_calls.specs.Layers.{Layer}
use Rattle.sw_eval_questions.specs.Talk.{Gives, Fails, bind}
use Rattle.sw_eval_questions.specs.Asking.{fault}
use Rattle.sw_eval_state.specs.Output.{commented}
use Rattle.sw_eval_state.specs.Misplaced.{misplaced, is_function}
use Rattle.sw_eval_state.specs.Eval.{Eval}
use Rattle.sw_eval_state.specs.declared.entries.Entry.{Entry}
use Rattle.sw_eval_statements.specs.Assignments.{assigned, variable_set}
use Rattle.sw_eval_statements.specs.AtRules.{at_root, at_rule, media, supports}
use Rattle.sw_eval_statements.specs.Flow.{branches, done, repeat_in}
use Rattle.sw_eval_statements.specs.Imports.{import}
use Rattle.sw_eval_statements.specs.Includes.{content, include}
use Rattle.sw_eval_statements.specs.Loops.{count_in, each_in}
use Rattle.sw_eval_statements.specs.Messages.{saying}
use Rattle.sw_eval_statements.specs.Places.{place_of}
use Rattle.sw_eval_statements.specs.Styles.{custom, declaration, properties, rule}
use Rattle.sw_eval_statements.specs.Texts.{sheet_text}
use Rattle.sw_eval_walk.specs.Texts.{plain_value}

-- ---- one level: `value` and `does` are the levels below

module _ (value : Parens → Expr → Eval Plain) where
  -- a comment is written with the values in it, but for one of a function
  unfoldable pub comment : Text → Eval (Option Plain)
  comment x s =
      if is_function s.here.inside then Gives (None, s)
      else bind (sheet_text value x s) (λ t. bind (commented t.0 x.span t.1) done)

  -- what a function gives
  unfoldable pub returning : Return → Eval (Option Plain)
  returning x s = bind (plain_value value P.Outside x.value s) (λ v. Gives (Some v.0, v.1))

module _ (value : Parens → Expr → Eval Plain) (does : Statement → Eval (Option Plain))
    (enter : Span → Entry → List Param → List Statement → Eval (Option Plain)) where
  -- one level of a statement; a load and what declares stand at the top level
  abbrev pub does_by : Layer → Eval (Option Plain)
  does_by (Statement-F.Variable x) s = variable_set value x s
  does_by (Statement-F.Assignment x) s = assigned value x s
  does_by (Statement-F.Declaration x) s = declaration value x s
  does_by (Statement-F.Properties x) s = properties value does x s
  does_by (Statement-F.Custom x) s = custom value x s
  does_by (Statement-F.Rule x) s = rule value does x s
  does_by (Statement-F.Include mixin block at) s = include value enter mixin block at s
  does_by (Statement-F.Content x) s = content value enter x s
  does_by (Statement-F.Return x) s = returning value x s
  does_by (Statement-F.If bs otherwise at) s = branches value does otherwise bs s
  does_by (Statement-F.Each x) s = each_in value does x s
  does_by (Statement-F.For x) s = count_in value does x s
  does_by (Statement-F.While x) s = repeat_in value does x s
  does_by (Statement-F.Say x) s = saying value x s
  does_by (Statement-F.Charset at) s = Gives (None, s)
  does_by (Statement-F.Comment text) s = comment value text s
  does_by (Statement-F.Use x) s = Fails (fault C.BadPlace x.span)
  does_by (Statement-F.Forward x) s = Fails (fault C.BadPlace x.span)
  does_by (Statement-F.Callable x) s = Fails (fault C.BadPlace x.span)
  does_by (Statement-F.Media x) s = media value does x s
  does_by (Statement-F.Supports x) s = supports value does x s
  does_by (Statement-F.AtRoot x) s = at_root value does x s
  does_by (Statement-F.Import x) s = import value x s
  does_by (Statement-F.Extend x) s = Fails (fault C.Extend x.span)
  does_by (Statement-F.AtRule x) s = at_rule value does x s

  unfoldable pub does_one : Statement → Eval (Option Plain)
  does_one x s = does_by (out-Statement x) s

  -- a statement that may stand in the running code's text
  unfoldable pub does_placed : Statement → Eval (Option Plain)
  does_placed x s = if misplaced s.here.inside x then Fails (fault C.BadPlace (place_of x)) else does_one x s
