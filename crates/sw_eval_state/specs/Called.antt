-- What answers about functions and mixins say (the Sass specification on modules; the places of faults are this project's
-- own).
use Rattle.std.specs.Prelude.{ℕ, ◌+◌, List, Some, None}
use Rattle.sw_text.specs.declared.fault.FaultCode.TheVariants as C
use Rattle.sw_text.specs.declared.place.Span.{Span}
use Rattle.sw_tree.specs.declared.callable.Callable.{Callable}
use Rattle.sw_tree.specs.declared.callable.Kind.TheVariants as K
use Rattle.sw_builtins.specs.declared.built_in.Found.{Found as Meant}
use Rattle.sw_builtins.specs.declared.built_in.Found.TheVariants as M
use Rattle.sw_builtins.specs.Tables.{found as meaning}
use Rattle.sw_world.specs.declared.answer.Answer.{Answer}
use Rattle.sw_world.specs.declared.answer.Answer.TheVariants as A
use Rattle.sw_eval_questions.specs.Talk.{Gives, Fails}
use Rattle.sw_eval_questions.specs.Asking.{fault}
use Rattle.sw_eval_state.specs.Eval.{Eval}
use Rattle.sw_eval_state.specs.declared.called.Called.{Called}
use Rattle.sw_eval_state.specs.declared.called.Called.TheVariants as call
use Rattle.sw_eval_state.specs.declared.entries.Found.{Found}

-- a callable that the question of this number was answered with
abbrev pub found : ℕ → Callable → Found
found n body = record { site = n + 1; callable = body }

-- what a name means that no function of a sheet has: a built-in function, or one of CSS
abbrev pub global_by : Meant → Span → Eval Called
global_by (M.Known f) span s = Gives (call.BuiltIn f, s)
global_by M.LeftOut span s = Fails (fault C.LeftOut span)
global_by M.NoSuch span s = Gives (call.Css, s)

-- what the name of a member of a built-in module means
abbrev pub built_in_by : Meant → Span → Span → Eval Called
built_in_by (M.Known f) span name_span s = Gives (call.BuiltIn f, s)
built_in_by M.LeftOut span name_span s = Fails (fault C.LeftOut span)
built_in_by M.NoSuch span name_span s = Fails (fault C.UnknownMember name_span)

-- what a call without a namespace means
abbrev pub function_by : List ℕ → Span → Span → ℕ → Answer → Eval Called
function_by name span name_span n (A.Callable site body) s = Gives (call.Sheet (found n body), s)
function_by name span name_span n (A.BuiltIn home member) s =
    built_in_by (meaning (Some home) K.Function member) span name_span s
function_by name span name_span n A.NoMember s = global_by (meaning None K.Function name) span s
function_by name span name_span n A.LeftOut s = Fails (fault C.LeftOut span)
function_by name span name_span n A.Conflict s = Fails (fault C.MemberConflict name_span)
function_by name span name_span n _ s = Fails (fault C.UnknownMember name_span)

-- what a call behind a namespace means
abbrev pub member_by : Span → Span → Span → ℕ → Answer → Eval Called
member_by span name_span space_span n (A.Callable site body) s = Gives (call.Sheet (found n body), s)
member_by span name_span space_span n (A.BuiltIn home member) s =
    built_in_by (meaning (Some home) K.Function member) span name_span s
member_by span name_span space_span n A.NoNamespace s = Fails (fault C.UnknownNamespace space_span)
member_by span name_span space_span n A.LeftOut s = Fails (fault C.LeftOut span)
member_by span name_span space_span n A.Conflict s = Fails (fault C.MemberConflict name_span)
member_by span name_span space_span n _ s = Fails (fault C.UnknownMember name_span)

-- which mixin is included
abbrev pub mixin_by : Span → Span → Span → ℕ → Answer → Eval Found
mixin_by span name_span space_span n (A.Callable site body) s = Gives (found n body, s)
mixin_by span name_span space_span n A.NoNamespace s = Fails (fault C.UnknownNamespace space_span)
mixin_by span name_span space_span n A.LeftOut s = Fails (fault C.LeftOut span)
mixin_by span name_span space_span n A.Conflict s = Fails (fault C.MemberConflict name_span)
mixin_by span name_span space_span n _ s = Fails (fault C.UnknownMember name_span)
