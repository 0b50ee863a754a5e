-- `@content` with a block, and without one.
use Rattle.std.proofs.Common.{◌≡◌, List, Option, Some, None, ap}
use Rattle.sw_text.specs.declared.place.Span.{Span}
use Rattle.sw_tree.specs.declared.callable.Param.{Param}
use Rattle.sw_tree.specs.declared.expr.Expr.{Expr}
use Rattle.sw_tree.specs.declared.statement.ContentCall.{ContentCall}
use Rattle.sw_tree.specs.declared.statement.Statement.{Statement}
use Rattle.sw_values.specs.declared.plain.Plain.{Plain}
use Rattle.sw_eval_literals.specs.declared.quotients.Parens.{Parens}
use Rattle.sw_eval_questions.specs.Talk.{Gives}
use Rattle.sw_eval_state.specs.Eval.{Eval}
use Rattle.sw_eval_state.specs.declared.here.Block.{Block}
use Rattle.sw_eval_state.specs.declared.entries.Entry.{Entry}
use Rattle.sw_eval_state.specs.declared.state.State.{State}
use Rattle.sw_eval_statements.specs.Includes.{content, content_by, content_run}

module _ (value : Parens → Expr → Eval Plain) (enter : Span → Entry → List Param → List Statement → Eval (Option Plain))
  where
    pub content_some : (x : ContentCall) (b : Block) (s : State) → s.here.content ≡ Some b
        → content value enter x s ≡ content_run value enter b x.arguments x.span s
    unfolding content
    content_some x b s is = ap (λ o. content_by value enter x o s) is

    pub content_none : (x : ContentCall) (s : State) → s.here.content ≡ None → content value enter x s ≡ Gives (None, s)
    unfolding content
    content_none x s is = ap (λ o. content_by value enter x o s) is
