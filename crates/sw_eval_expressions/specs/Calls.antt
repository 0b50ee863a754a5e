-- Calls of functions (the Sass specification on functions; limits and the places of faults are this project's own).
use Rattle.std.specs.Prelude.{if◌then◌else◌, List, [], Option}
use Rattle.sw_text.specs.declared.place.Span.{Span}
use Rattle.sw_tree.specs.declared.callable.Param.{Param}
use Rattle.sw_tree.specs.declared.expr.Argument.{Argument}
use Rattle.sw_tree.specs.declared.expr.Callee.{Callee}
use Rattle.sw_tree.specs.declared.expr.Expr.{Expr}
use Rattle.sw_tree.specs.declared.statement.Statement.{Statement}
use Rattle.sw_values.specs.declared.plain.Plain.{Plain}
use Rattle.sw_scope.specs.Passed.{none_passed}
use Rattle.sw_builtins.specs.declared.built_in.BuiltIn.{BuiltIn}
use Rattle.sw_builtins.specs.declared.built_in.BuiltIn.TheVariants as B
use Rattle.sw_eval_literals.specs.declared.quotients.Parens.{Parens}
use Rattle.sw_eval_literals.specs.Quotients.{deeper}
use Rattle.sw_eval_questions.specs.Talk.{bind}
use Rattle.sw_eval_questions.specs.Refusals.{answer}
use Rattle.sw_eval_state.specs.Entering.{returned}
use Rattle.sw_eval_state.specs.Eval.{Eval}
use Rattle.sw_eval_state.specs.Entries.{function_entry}
use Rattle.sw_eval_state.specs.declared.called.Called.{Called}
use Rattle.sw_eval_state.specs.declared.called.Called.TheVariants as call
use Rattle.sw_eval_state.specs.declared.entries.Entry.{Entry}
use Rattle.sw_eval_state.specs.declared.entries.Found.{Found}
use Rattle.sw_eval_expressions.specs.Choosing.{has_spread}
use Rattle.sw_eval_expressions.specs.Functions.{css_called, if_called}
use Rattle.sw_eval_walk.specs.Arguments.{arguments, argument_values}
use Rattle.sw_eval_walk.specs.Callees.{called}
use Rattle.sw_eval_walk.specs.Existence.{built_in_called}

-- ---- one level: `value` is the level below; `enter` goes through the body of what is called

module _ (value : Parens → Expr → Eval Plain) (enter : Span → Entry → List Param → List Statement → Eval (Option Plain))
  where
    -- the call of a function of a sheet
    unfoldable pub sheet_call : Parens → Found → List Argument → Span → Eval Plain
    sheet_call parens f args span s =
        bind (arguments value (deeper parens) args none_passed s)
        (λ p. bind (answer (function_entry f p.0 span) p.1)
        (λ e. bind (enter span e.0 f.callable.params.items f.callable.block e.1) (λ r. returned r.0 span r.1)))

    -- a built-in function, which is given its arguments
    unfoldable pub built_in_call : Parens → BuiltIn → List Argument → Span → Eval Plain
    built_in_call parens f args span s =
        bind (argument_values value (deeper parens) args [] s) (λ vs. built_in_called f args vs.0 span vs.1)

    -- of the arguments of `if()` it is given one at most, unless a value is written with `...`
    abbrev pub built_in_by : Parens → BuiltIn → List Argument → Span → Eval Plain
    built_in_by parens B.If args span s =
        if has_spread args then built_in_call parens B.If args span s else if_called value parens args span s
    built_in_by parens f args span s = built_in_call parens f args span s

    abbrev pub call_by : Parens → Callee → List Argument → Span → Called → Eval Plain
    call_by parens c args span (call.Sheet f) s = sheet_call parens f args span s
    call_by parens c args span (call.BuiltIn f) s = built_in_by parens f args span s
    call_by parens c args span call.Css s = css_called value parens c args span s

    unfoldable pub call_value : Parens → Callee → List Argument → Span → Eval Plain
    call_value parens c args span s = bind (called c span s) (λ f. call_by parens c args span f.0 f.1)
