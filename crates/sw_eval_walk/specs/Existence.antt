-- What the functions that ask what is declared find (the Sass reference documentation on `sass:meta`; the places of
-- faults are this project's own).
use Rattle.std.specs.Prelude.{ℕ, Bool, true, false, ◌&&◌, ◌||◌, if◌then◌else◌, List, Option, Some, None}
use Rattle.std.specs.Option.{is_some}
use Rattle.sw_text.specs.Names.{is_private}
use Rattle.sw_text.specs.declared.place.Span.{Span}
use Rattle.sw_tree.specs.declared.callable.Kind.{Kind}
use Rattle.sw_tree.specs.declared.callable.Kind.TheVariants as K
use Rattle.sw_tree.specs.declared.expr.Argument.{Argument}
use Rattle.sw_values.specs.declared.plain.Plain.{Plain}
use Rattle.sw_scope.specs.declared.passed.Passed.{Passed}
use Rattle.sw_scope.specs.Frames.{Variable}
use Rattle.sw_scope.specs.Passed.{none_passed}
use Rattle.sw_scope.specs.Scopes.{look_top}
use Rattle.sw_builtins.specs.declared.built_in.Asked.{Asked}
use Rattle.sw_builtins.specs.declared.built_in.Asked.TheVariants as A
use Rattle.sw_builtins.specs.declared.built_in.BuiltIn.{BuiltIn}
use Rattle.sw_builtins.specs.declared.built_in.BuiltIn.TheVariants as B
use Rattle.sw_eval_questions.specs.Talk.{Gives, bind}
use Rattle.sw_eval_questions.specs.Refusals.{answer}
use Rattle.sw_eval_calls.specs.Placing.{all_passed}
use Rattle.sw_eval_built_in_calls.specs.BuiltIns.{built_in_arguments, built_in_call}
use Rattle.sw_eval_state.specs.Callables.{own_function, own_mixin}
use Rattle.sw_eval_state.specs.Eval.{Eval}
use Rattle.sw_eval_state.specs.Existing.{truth, name_in, module_in, exists_by, is_built_in, content_exists}
use Rattle.sw_eval_state.specs.Scope.{own, is_home}
use Rattle.sw_eval_walk.specs.Going.{finding}

-- a name means something
unfoldable pub exists : Kind → Option (List ℕ) → List ℕ → Span → Eval Bool
exists kind space name span s = bind (finding space kind name span s) (λ a. exists_by a.0.1 span a.1)

-- a private name means nothing behind a namespace
unfoldable pub member_exists : Kind → List ℕ → List ℕ → Span → Eval Bool
member_exists kind space name span s =
    if is_private name then Gives (false, s) else exists kind (Some space) name span s

-- a variable that is seen at the call
unfoldable pub variable_exists : List ℕ → Span → Eval Bool
variable_exists name span s = if is_some (own s name) then Gives (true, s) else exists K.Variable None name span s

-- ---- as at the top level of the sheet in which the call is written

unfoldable pub global_exists : List ℕ → Span → Eval Bool
global_exists name span s =
    if is_home s && is_some (look_top s.scopes name) then Gives (true, s) else exists K.Variable None name span s

unfoldable pub mixin_exists : List ℕ → Span → Eval Bool
mixin_exists name span s = if is_some (own_mixin name s) then Gives (true, s) else exists K.Mixin None name span s

unfoldable pub function_exists : List ℕ → Span → Eval Bool
function_exists name span s =
    if is_some (own_function name s) then Gives (true, s)
    else bind (exists K.Function None name span s) (λ e. Gives (e.0 || is_built_in name, e.1))

abbrev pub kind_exists : Kind → List ℕ → Span → Eval Bool
kind_exists K.Variable name span s = global_exists name span s
kind_exists K.Function name span s = function_exists name span s
kind_exists K.Mixin name span s = mixin_exists name span s

-- ---- calls

abbrev pub asked_in : Kind → List ℕ → Option (List ℕ) → Span → Eval Bool
asked_in kind name (Some space) span s = member_exists kind space name span s
asked_in kind name None span s = kind_exists kind name span s

unfoldable pub asked_of : Kind → List Variable → Span → Eval Bool
asked_of kind vs span s =
    bind (answer (name_in vs span) s)
    (λ n. bind (answer (module_in vs span) n.1) (λ m. asked_in kind n.0 m.0 span m.1))

abbrev pub asked : Asked → List Variable → Span → Eval Bool
asked A.VariableExists vs span s = bind (answer (name_in vs span) s) (λ n. variable_exists n.0 span n.1)
asked A.GlobalVariableExists vs span s = asked_of K.Variable vs span s
asked A.FunctionExists vs span s = asked_of K.Function vs span s
asked A.MixinExists vs span s = asked_of K.Mixin vs span s
asked A.ContentExists vs span s = content_exists span s

abbrev pub asking_call : Asked → BuiltIn → Passed → Span → Eval Plain
asking_call a f p span s =
    bind (answer (built_in_arguments f p span) s)
    (λ vs. bind (asked a vs.0 span vs.1) (λ h. Gives (truth h.0, h.1)))

-- what a built-in function gives for the arguments of a call that stands here, which have these values
abbrev pub built_in_called : BuiltIn → List Argument → List Plain → Span → Eval Plain
built_in_called (B.Asked a) args vs span s = asking_call a (B.Asked a) (all_passed none_passed args vs) span s
built_in_called f args vs span s = answer (built_in_call f args vs span) s
