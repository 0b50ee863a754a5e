-- At-rules (the Sass specification on at-rules; limits and the places of faults are
-- this project's own).
use Rattle.std.specs.Prelude.{ℕ, true, codes, if◌then◌else◌, List, Option, Some, None}
use Rattle.std.specs.Option.{is_some}
use Rattle.sw_text.specs.declared.fault.FaultCode.TheVariants as C
use Rattle.sw_text.specs.declared.place.Span.{Span}
use Rattle.sw_tree.specs.declared.expr.Expr.{Expr}
use Rattle.sw_tree.specs.declared.statement.AtRoot.{AtRoot}
use Rattle.sw_tree.specs.declared.statement.AtRule.{AtRule}
use Rattle.sw_tree.specs.declared.statement.Media.{Media}
use Rattle.sw_tree.specs.declared.statement.Statement.{Statement}
use Rattle.sw_tree.specs.declared.statement.Supports.{Supports}
use Rattle.sw_tree.specs.declared.text.Text.{Text}
use Rattle.sw_values.specs.declared.plain.Plain.{Plain}
use Rattle.sw_eval_literals.specs.declared.quotients.Parens.{Parens}
use Rattle.sw_eval_questions.specs.Talk.{Gives, Fails, bind}
use Rattle.sw_eval_questions.specs.Asking.{fault}
use Rattle.sw_eval_state.specs.AtRules.{bare_name, media_entered, at_entered, root_entered, at_lined}
use Rattle.sw_eval_state.specs.Eval.{Eval}
use Rattle.sw_eval_state.specs.Rules.{rule_entered}
use Rattle.sw_eval_statements.specs.Flow.{done}
use Rattle.sw_eval_statements.specs.Styles.{nested_block}
use Rattle.sw_eval_statements.specs.Texts.{raw_text, sheet_text}

-- ---- one level: `value` and `does` are the levels below

module _ (does : Statement → Eval (Option Plain)) where
  -- `@at-root` without a selector
  unfoldable pub root_without : List Statement → Eval (Option Plain)
  root_without xs s = nested_block does xs (root_entered s)

  -- an at-rule of this name and prelude, with its block or without one
  abbrev pub block_by : List ℕ → List ℕ → Option (List Statement) → Span → Eval (Option Plain)
  block_by name prelude (Some xs) span s = bind (at_entered name prelude span s) (λ u. nested_block does xs u.1)
  block_by name prelude None span s = bind (at_lined name prelude span s) done

module _ (value : Parens → Expr → Eval Plain) (does : Statement → Eval (Option Plain)) where
  -- none of these stands among nested properties

  -- where no query is left, the block isn't evaluated
  unfoldable pub media : Media → Eval (Option Plain)
  media x s =
      if is_some s.nesting.prefix then Fails (fault C.BadPlace x.span)
      else bind (sheet_text value x.queries s)
      (λ t. bind (media_entered t.0 x.queries.span x.span t.1)
      (λ m. if m.0 then nested_block does x.block m.1 else Gives (None, m.1)))

  unfoldable pub supports : Supports → Eval (Option Plain)
  supports x s =
      if is_some s.nesting.prefix then Fails (fault C.BadPlace x.span)
      else bind (sheet_text value x.condition s)
      (λ t. bind (at_entered (codes "supports") t.0 x.span t.1) (λ u. nested_block does x.block u.1))

  -- with a selector
  unfoldable pub root_with : Text → List Statement → Span → Eval (Option Plain)
  root_with x xs span s =
      bind (sheet_text value x s)
      (λ t. bind (rule_entered true t.0 x.span span t.1) (λ u. nested_block does xs u.1))

  abbrev pub root_by : Option Text → List Statement → Span → Eval (Option Plain)
  root_by (Some x) xs span s = root_with x xs span s
  root_by None xs span s = root_without does xs s

  unfoldable pub at_root : AtRoot → Eval (Option Plain)
  at_root x s =
      if is_some s.nesting.prefix then Fails (fault C.BadPlace x.span) else root_by x.selector x.block x.span s

  -- an at-rule that has no meaning of its own
  unfoldable pub at_rule : AtRule → Eval (Option Plain)
  at_rule x s =
      if is_some s.nesting.prefix then Fails (fault C.BadPlace x.span)
      else bind (sheet_text value x.name s)
      (λ n. bind (raw_text value x.prelude n.1)
      (λ p. block_by does (bare_name n.0) p.0 x.block x.span p.1))
