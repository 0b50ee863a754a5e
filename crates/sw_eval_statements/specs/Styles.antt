-- Rules and declarations (the Sass specification on style rules and declarations; places of faults and limits are this project's own). It
-- gives the value that ends the body around it, where there is one.
use Rattle.std.specs.Prelude.{false, ℕ, if◌then◌else◌, List, Option, Some, None}
use Rattle.std.specs.Option.{is_some}
use Rattle.sw_text.specs.declared.fault.FaultCode.TheVariants as C
use Rattle.sw_text.specs.declared.place.Span.{Span}
use Rattle.sw_tree.specs.declared.statement.Custom.{Custom}
use Rattle.sw_tree.specs.declared.statement.Declaration.{Declaration}
use Rattle.sw_tree.specs.declared.statement.Properties.{Properties}
use Rattle.sw_tree.specs.declared.statement.Rule.{Rule}
use Rattle.sw_tree.specs.declared.statement.Statement.{Statement}
use Rattle.sw_tree.specs.declared.expr.Expr.{Expr}
use Rattle.sw_tree.specs.declared.text.Text.{Text}
use Rattle.sw_values.specs.declared.plain.Plain.{Plain}
use Rattle.sw_scope.specs.declared.mark.FrameKind.TheVariants as F
use Rattle.sw_eval_literals.specs.declared.quotients.Parens.{Parens}
use Rattle.sw_eval_literals.specs.declared.quotients.Parens.TheVariants as P
use Rattle.sw_eval_questions.specs.Talk.{Gives, Fails, bind}
use Rattle.sw_eval_questions.specs.Asking.{fault}
use Rattle.sw_eval_state.specs.Nestings.{takes_lines}
use Rattle.sw_eval_state.specs.Output.{declaring, written}
use Rattle.sw_eval_state.specs.Rules.{full_name, plain_entered, rule_entered, rule_left, prefixed, unnested}
use Rattle.sw_eval_state.specs.Eval.{Eval}
use Rattle.sw_eval_statements.specs.Flow.{done, framed}
use Rattle.sw_eval_statements.specs.Places.{is_css}
use Rattle.sw_eval_statements.specs.Texts.{raw_text, sheet_text}

-- a rule is open whose selectors have this text; in a file of plain CSS they are written as they stand
unfoldable pub rule_opened : Rule → List ℕ → Eval (Unit {0})
rule_opened x text s =
    if is_css x.span then plain_entered text x.span s else rule_entered false text x.selector.span x.span s

-- ---- one level: `value` and `does` are the levels below

module _ (value : Parens → Expr → Eval Plain) where
  -- the whole name of a property
  unfoldable pub property : Text → Eval (List ℕ)
  property x s = bind (sheet_text value x s) (λ p. Gives (full_name p.0 p.1, p.1))

  -- a value that is written as this property; the statement stands here
  unfoldable pub valued : List ℕ → Expr → Span → Eval (Unit {0})
  valued name e span s = bind (value P.Outside e s) (λ v. written name v.0 e.span span v.1)

  -- a declaration stands in a rule or an at-rule
  unfoldable pub declaration : Declaration → Eval (Option Plain)
  declaration x s =
      if takes_lines s.nesting then bind (property x.property s) (λ p. bind (valued p.0 x.value x.span p.1) done)
      else Fails (fault C.BadPlace x.span)

  -- a custom property is its text
  unfoldable pub custom : Custom → Eval (Option Plain)
  custom x s =
      if takes_lines s.nesting
      then bind (property x.property s)
      (λ p. bind (raw_text value x.value p.1) (λ t. bind (declaring p.0 t.0 x.span t.1) done))
      else Fails (fault C.BadPlace x.span)

  -- the value of nested properties, where there is one
  abbrev pub maybe_valued : List ℕ → Option Expr → Span → Eval (Unit {0})
  maybe_valued name None span s = Gives (tt, s)
  maybe_valued name (Some e) span s = valued name e span s

module _ (does : Statement → Eval (Option Plain)) where
  -- the block of what was opened last, in a frame of its own; that is closed then
  unfoldable pub nested_block : List Statement → Eval (Option Plain)
  nested_block xs s = bind (framed does F.Block xs s) (λ r. Gives (r.0, rule_left r.1))

module _ (value : Parens → Expr → Eval Plain) (does : Statement → Eval (Option Plain)) where
  -- a rule doesn't stand among nested properties
  unfoldable pub rule : Rule → Eval (Option Plain)
  rule x s =
      if is_some s.nesting.prefix then Fails (fault C.BadPlace x.span)
      else bind (sheet_text value x.selector s)
      (λ t. bind (rule_opened x t.0 t.1) (λ q. nested_block does x.block q.1))

  -- nested properties: the value, and then those in the block
  unfoldable pub properties : Properties → Eval (Option Plain)
  properties x s =
      if takes_lines s.nesting
      then bind (property value x.property s)
      (λ p. bind (maybe_valued value p.0 x.value x.span p.1)
      (λ u. bind (framed does F.Block x.block (prefixed p.0 u.1)) (λ r. Gives (r.0, unnested r.1))))
      else Fails (fault C.BadPlace x.span)
