-- What a call means, and which mixin is included (the Sass specification on modules; the places of faults are this
-- project's own).
use Rattle.std.specs.Prelude.{ℕ, if◌then◌else◌, List, Option, Some, None}
use Rattle.sw_text.specs.Names.{is_private, dashed}
use Rattle.sw_text.specs.declared.fault.FaultCode.TheVariants as C
use Rattle.sw_text.specs.declared.place.Span.{Span}
use Rattle.sw_tree.specs.declared.callable.Callable.{Callable}
use Rattle.sw_tree.specs.declared.callable.Kind.TheVariants as K
use Rattle.sw_tree.specs.declared.callable.Mixin.{Mixin}
use Rattle.sw_tree.specs.declared.expr.Callee.{Callee}
use Rattle.sw_tree.specs.declared.expr.ExprKind.TheOpen.{Parts-F}
use Rattle.sw_tree.specs.declared.expr.Namespaced.{Namespaced}
use Rattle.sw_tree.specs.declared.text.Parts.{out-Parts}
use Rattle.sw_eval_questions.specs.Talk.{Gives, Fails, bind}
use Rattle.sw_eval_questions.specs.Asking.{fault}
use Rattle.sw_eval_state.specs.Callables.{own_function, own_mixin}
use Rattle.sw_eval_state.specs.Called.{function_by, member_by, mixin_by}
use Rattle.sw_eval_state.specs.Eval.{Eval}
use Rattle.sw_eval_state.specs.declared.called.Called.{Called}
use Rattle.sw_eval_state.specs.declared.called.Called.TheVariants as call
use Rattle.sw_eval_state.specs.declared.entries.Found.{Found}
use Rattle.sw_eval_calls.specs.Layers.{Texts}
use Rattle.sw_eval_walk.specs.Going.{finding}

-- from the start of a part of a sheet to the end of another
abbrev pub from_to : Span → Span → Span
from_to first last = record { file = first.file; from = first.from; to = last.to }

-- the module's own
abbrev pub own : Callable → Found
own c = record { site = 0; callable = c }

-- ---- functions

abbrev pub function_or : Option Callable → List ℕ → Span → Span → Eval Called
function_or (Some c) name name_span span s = Gives (call.Sheet (own c), s)
function_or None name name_span span s =
    bind (finding None K.Function name span s) (λ a. function_by name span name_span a.0.0 a.0.1 a.1)

-- a name without a namespace, which stands at the first place; the call stands at the second
unfoldable pub function_called : List ℕ → Span → Span → Eval Called
function_called name name_span span s = function_or (own_function (dashed name) s) (dashed name) name_span span s

-- a name behind a namespace
unfoldable pub member_called : Namespaced → List ℕ → Span → Span → Eval Called
member_called space name name_span span s =
    if is_private name then Fails (fault C.Private name_span)
    else bind (finding (Some space.name) K.Function (dashed name) span s)
    (λ a. member_by span name_span space.span a.0.0 a.0.1 a.1)

abbrev pub plain_called : Option Namespaced → List ℕ → Span → Span → Eval Called
plain_called None name name_span span s = function_called name name_span span s
plain_called (Some space) name name_span span s = member_called space name (from_to space.span name_span) span s

-- a name in which a value stands is that of a function of CSS
abbrev pub called_by : Texts → Option Namespaced → Span → Span → Eval Called
called_by (Parts-F.Plain name) space name_span span s = plain_called space name name_span span s
called_by (Parts-F.Mixed ps) space name_span span s = Gives (call.Css, s)

-- what a call means that stands here
unfoldable pub called : Callee → Span → Eval Called
called c span s = called_by (out-Parts c.name.parts) c.namespace c.name.span span s

-- ---- mixins

abbrev pub mixin_or : Option Callable → Mixin → Span → Eval Found
mixin_or (Some c) x span s = Gives (own c, s)
mixin_or None x span s =
    bind (finding None K.Mixin x.name span s) (λ a. mixin_by span x.name_span x.name_span a.0.0 a.0.1 a.1)

unfoldable pub member_mixin : Namespaced → Mixin → Span → Eval Found
member_mixin space x span s =
    if is_private x.name then Fails (fault C.Private x.name_span)
    else bind (finding (Some space.name) K.Mixin x.name span s)
    (λ a. mixin_by span x.name_span space.span a.0.0 a.0.1 a.1)

-- a name without a namespace
unfoldable pub plain_mixin : Mixin → Span → Eval Found
plain_mixin x span s = mixin_or (own_mixin x.name s) x span s

abbrev pub mixin_called_by : Option Namespaced → Mixin → Span → Eval Found
mixin_called_by None x span s = plain_mixin x span s
mixin_called_by (Some space) x span s = member_mixin space x span s

-- which mixin is included by a statement that stands here
unfoldable pub mixin_called : Mixin → Span → Eval Found
mixin_called x span s = mixin_called_by x.namespace x span s
