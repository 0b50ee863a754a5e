-- Variables of the running code, and of other modules (the Sass specification on variables and modules; the places of
-- faults are this project's own).
use Rattle.std.specs.Prelude.{ℕ, Bool, false, not, if◌then◌else◌, List, Option, Some, None}
use Rattle.sw_text.specs.Names.{is_private}
use Rattle.sw_text.specs.declared.fault.FaultCode.{FaultCode}
use Rattle.sw_text.specs.declared.fault.FaultCode.TheVariants as C
use Rattle.sw_text.specs.declared.place.Span.{Span}
use Rattle.sw_tree.specs.declared.expr.Qualified.{Qualified}
use Rattle.sw_tree.specs.declared.callable.Kind.TheVariants as K
use Rattle.sw_values.specs.declared.plain.Plain.{Plain}
use Rattle.sw_values.specs.declared.plain.Plain.TheVariants as N
use Rattle.sw_scope.specs.Scopes.{look_top}
use Rattle.sw_world.specs.declared.answer.Answer.{Answer}
use Rattle.sw_world.specs.declared.answer.Answer.TheVariants.{BuiltIn}
use Rattle.sw_eval_questions.specs.Talk.{Gets, Puts, Gives, Fails, bind}
use Rattle.sw_eval_questions.specs.Asking.{fault, asking}
use Rattle.sw_eval_questions.specs.Refusals.{answer}
use Rattle.sw_eval_state.specs.Scope.{own, is_home, is_mine, set_by, set_own}
use Rattle.sw_eval_state.specs.Left.{or_null}
use Rattle.sw_eval_built_in_calls.specs.BuiltIns.{built_in_variable}
use Rattle.sw_eval_state.specs.Owners.{owner, target, named_owner, got, is_null, is_absent}
use Rattle.sw_eval_state.specs.Eval.{Eval}
use Rattle.sw_tree.specs.declared.statement.Flags.{Flags}
use Rattle.sw_eval_walk.specs.Going.{finding}

-- ---- the variables of others

-- what the variable of an owner holds
unfoldable pub getting : ℕ → Span → Eval Plain
getting o span s = bind (asking (Gets o) span s) (λ b. got span b.0.1 b.1)

-- the variable of an owner is given a value
unfoldable pub putting : ℕ → Plain → Span → Eval (Unit {0})
putting o v span s = bind (asking (Puts o v) span s) (λ b. Gives (tt, b.1))

-- the owner of another module's variable that is given a value: its name stands at the first place
unfoldable pub owner_of : List ℕ → Span → Span → Eval ℕ
owner_of name name_span span s =
    bind (finding None K.Variable name span s) (λ a. named_owner name_span span a.0.0 a.0.1 a.1)

-- what the variable holds that was answered: that of a built-in module is known
abbrev pub held_by : FaultCode → Span → Span → ℕ → Answer → Eval Plain
held_by unknown span space_span n (BuiltIn home name) s = answer (built_in_variable unknown home name span) s
held_by unknown span space_span n a s = bind (owner unknown span space_span n a s) (λ o. getting o.0 span o.1)

-- what another module's variable holds: its owner is found, and then its value got
unfoldable pub outside : FaultCode → Option (List ℕ) → List ℕ → Span → Span → Eval Plain
outside unknown space name span space_span s =
    bind (finding space K.Variable name span s) (λ a. held_by unknown span space_span a.0.0 a.0.1 a.1)

abbrev pub or_outside : List ℕ → Span → Option Plain → Eval Plain
or_outside name span (Some v) s = Gives (v, s)
or_outside name span None s = outside C.UnknownVariable None name span span s

-- a variable without a namespace
unfoldable pub variable : List ℕ → Span → Eval Plain
variable name span s = or_outside name span (own s name) s

-- a variable behind a namespace
unfoldable pub qualified : Qualified → Span → Eval Plain
qualified q span s =
    if is_private q.name then Fails (fault C.Private span)
    else outside C.UnknownMember (Some q.namespace.name) q.name span q.namespace.span s

-- the owner of a variable behind a namespace that is assigned; the variable stands at the first place
unfoldable pub targeted : Qualified → Span → Span → Eval ℕ
targeted q name_span span s =
    if is_private q.name then Fails (fault C.Private name_span)
    else bind (finding (Some q.namespace.name) K.Variable q.name span s)
    (λ a. target span name_span q.namespace.span a.0.0 a.0.1 a.1)

-- ---- what a variable has before its default

-- what the variable has that was answered, whose name stands at the first place
abbrev pub named_by : Span → Span → ℕ → Answer → Eval Plain
named_by name_span span n (BuiltIn home name) s =
    answer (built_in_variable C.UnknownVariable home name name_span) s
named_by name_span span n a s = bind (named_owner name_span span n a s) (λ o. getting o.0 span o.1)

-- null where there is none
abbrev pub sought_by : Span → Span → ℕ → Answer → Eval Plain
sought_by name_span span n a s = if is_absent a then Gives (N.Null, s) else named_by name_span span n a s

-- what the variable has that a name means, which is asked
unfoldable pub sought : List ℕ → Span → Span → Eval Plain
sought name name_span span s =
    bind (finding None K.Variable name span s) (λ a. sought_by name_span span a.0.0 a.0.1 a.1)

abbrev pub or_sought : List ℕ → Span → Span → Option Plain → Eval Plain
or_sought name name_span span (Some v) s = Gives (v, s)
or_sought name name_span span None s = sought name name_span span s

-- what is seen counts, but with `!global` no local variable does
unfoldable pub before_by : Bool → List ℕ → Span → Span → Eval Plain
before_by global name name_span span s =
    if global then sought name name_span span s else or_sought name name_span span (own s name) s

-- what a name has before its default
unfoldable pub before_default : Bool → List ℕ → Span → Span → Eval Plain
before_default global name name_span span s =
    if is_mine s global then Gives (or_null (look_top s.scopes name), s)
    else before_by global name name_span span s

-- a value that isn't null
unfoldable pub has_value : Bool → List ℕ → Span → Span → Eval Bool
has_value global name name_span span s =
    bind (before_default global name name_span span s) (λ v. Gives (not (is_null v.0), v.1))

-- a variable with `!default` that has its value; its name stands at the first place, the statement at the second
unfoldable pub kept : Flags → List ℕ → Span → Span → Eval Bool
kept flags name name_span span s =
    if flags.default then has_value flags.global name name_span span s else Gives (false, s)

-- ---- what is assigned

-- code of another module asks
unfoldable pub put_global : List ℕ → Plain → Span → Span → Eval (Unit {0})
put_global name v name_span span s = bind (owner_of name name_span span s) (λ o. putting o.0 v span o.1)

-- a variable of the running code's module
unfoldable pub set_global : List ℕ → Plain → Span → Span → Eval (Unit {0})
set_global name v name_span span s =
    if is_home s then Gives (tt, set_own s (name, v)) else put_global name v name_span span s

-- its name stands at the first place, the statement at the second
unfoldable pub stored : Bool → List ℕ → Plain → Span → Span → Eval (Unit {0})
stored global name v name_span span s =
    if global then set_global name v name_span span s else Gives (tt, set_by s (name, v))
