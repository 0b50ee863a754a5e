-- Mixins and content blocks, and the bodies of all that is called (the Sass specification on mixins and content blocks;
-- limits and the places of faults are this project's own).
use Rattle.std.specs.Prelude.{List, Option, Some, None}
use Rattle.sw_text.specs.declared.place.Span.{Span}
use Rattle.sw_tree.specs.declared.callable.Content.{Content}
use Rattle.sw_tree.specs.declared.callable.Mixin.{Mixin}
use Rattle.sw_tree.specs.declared.callable.Param.{Param}
use Rattle.sw_tree.specs.declared.expr.Argument.{Argument}
use Rattle.sw_tree.specs.declared.expr.Expr.{Expr}
use Rattle.sw_tree.specs.declared.statement.ContentCall.{ContentCall}
use Rattle.sw_tree.specs.declared.statement.Statement.{Statement}
use Rattle.sw_values.specs.declared.plain.Plain.{Plain}
use Rattle.sw_scope.specs.Passed.{none_passed}
use Rattle.sw_eval_literals.specs.declared.quotients.Parens.{Parens}
use Rattle.sw_eval_literals.specs.declared.quotients.Parens.TheVariants as P
use Rattle.sw_eval_questions.specs.Talk.{Gives, bind}
use Rattle.sw_eval_questions.specs.Refusals.{answer}
use Rattle.sw_eval_state.specs.Begin.{spent}
use Rattle.sw_eval_state.specs.Entering.{opened, closed}
use Rattle.sw_eval_state.specs.Eval.{Eval}
use Rattle.sw_eval_state.specs.Entries.{block_entry, mixin_entry}
use Rattle.sw_eval_state.specs.declared.here.Block.{Block, out-Block}
use Rattle.sw_eval_state.specs.declared.entries.Entry.{Entry}
use Rattle.sw_eval_state.specs.declared.entries.Found.{Found}
use Rattle.sw_eval_statements.specs.Flow.{block}
use Rattle.sw_eval_statements.specs.Parameters.{fill}
use Rattle.sw_eval_walk.specs.Arguments.{arguments}
use Rattle.sw_eval_walk.specs.Callees.{mixin_called}

-- ---- one level: `value`, `does` and `enter` are the levels below; `enter` goes through the body of what is called

module _ (value : Parens → Expr → Eval Plain) (does : Statement → Eval (Option Plain)) where
  -- the body of what is called, whose call stands here
  unfoldable pub run_body : Span → Entry → List Param → List Statement → Eval (Option Plain)
  run_body span e params xs s =
      bind (spent span s)
      (λ t. bind (fill value params e.slots (opened e.here e.mark t.1))
      (λ u. bind (block does xs u.1) (λ r. Gives (r.0, closed r.1))))

module _ (value : Parens → Expr → Eval Plain) (enter : Span → Entry → List Param → List Statement → Eval (Option Plain))
  where
    -- the body of this mixin, which is given a content block that is written here
    unfoldable pub included : Found → List Argument → Option Content → Span → Eval (Option Plain)
    included f args content span s =
        bind (arguments value P.Outside args none_passed s)
        (λ p. bind (mixin_entry f content p.0 span p.1)
        (λ e. enter span e.0 f.callable.params.items f.callable.block e.1))

    unfoldable pub include : Mixin → Option Content → Span → Eval (Option Plain)
    include x content span s = bind (mixin_called x span s) (λ f. included f.0 x.arguments content span f.1)

    -- the body of the content block that the running mixin was given
    unfoldable pub content_run : Block → List Argument → Span → Eval (Option Plain)
    content_run b args span s =
        bind (arguments value P.Outside args none_passed s)
        (λ p. bind (answer (block_entry b p.0 span) p.1)
        (λ e. enter span e.0 (out-Block b).content.params.items (out-Block b).content.block e.1))

    -- nothing where it was given none
    abbrev pub content_by : ContentCall → Option Block → Eval (Option Plain)
    content_by x None s = Gives (None, s)
    content_by x (Some b) s = content_run b x.arguments x.span s

    unfoldable pub content : ContentCall → Eval (Option Plain)
    content x s = content_by x s.here.content s
