-- What answers about variables say (the Sass specification on modules; the places of faults are this project's own).
use Rattle.std.specs.Prelude.{ℕ, Bool, true, false, List}
use Rattle.sw_text.specs.declared.fault.FaultCode.{FaultCode}
use Rattle.sw_text.specs.declared.fault.FaultCode.TheVariants as C
use Rattle.sw_text.specs.declared.place.Span.{Span}
use Rattle.sw_values.specs.declared.plain.Plain.{Plain}
use Rattle.sw_values.specs.declared.value.Node.{Node}
use Rattle.sw_values.specs.declared.value.Node.TheVariants as nodes
use Rattle.sw_values.specs.Shape.{node_of}
use Rattle.sw_world.specs.declared.answer.Answer.{Answer}
use Rattle.sw_world.specs.declared.answer.Answer.TheVariants.{Owner, BuiltIn, NoNamespace, NoMember, LeftOut, Conflict, Value}
use Rattle.sw_eval_questions.specs.Talk.{Gives, Fails}
use Rattle.sw_eval_questions.specs.Asking.{fault}
use Rattle.sw_eval_state.specs.Eval.{Eval}

-- the number of the owner that was answered, or what the name and its namespace are refused with
abbrev pub owner : FaultCode → Span → Span → ℕ → Answer → Eval ℕ
owner unknown span space_span n (Owner path name) s = Gives (n, s)
owner unknown span space_span n NoNamespace s = Fails (fault C.UnknownNamespace space_span)
owner unknown span space_span n LeftOut s = Fails (fault C.LeftOut span)
owner unknown span space_span n Conflict s = Fails (fault C.MemberConflict span)
owner unknown span space_span n _ s = Fails (fault unknown span)

-- the owner of a variable that is assigned; one of a built-in module can't be
abbrev pub target : Span → Span → Span → ℕ → Answer → Eval ℕ
target span name_span space_span n (BuiltIn home name) s = Fails (fault C.NotConfigurable span)
target span name_span space_span n answer s = owner C.UnknownMember name_span space_span n answer s

-- the owner of a variable without a namespace that is given a value; what is wrong with its name stands at it
abbrev pub named_owner : Span → Span → ℕ → Answer → Eval ℕ
named_owner name_span span n (Owner path name) s = Gives (n, s)
named_owner name_span span n LeftOut s = Fails (fault C.LeftOut name_span)
named_owner name_span span n Conflict s = Fails (fault C.MemberConflict name_span)
named_owner name_span span n _ s = Fails (fault C.UnknownVariable span)

abbrev pub got : Span → Answer → Eval Plain
got span (Value v) s = Gives (v, s)
got span _ s = Fails (fault C.UnknownVariable span)

abbrev pub null_by : Node → Bool
null_by (nodes.Number _) = false
null_by (nodes.Text _ _) = false
null_by (nodes.Colour _) = false
null_by (nodes.List _ _ _) = false
null_by (nodes.Map _) = false
null_by (nodes.Bool _) = false
null_by nodes.Null = true
null_by (nodes.Args _ _) = false

abbrev pub is_null : Plain → Bool
is_null v = null_by (node_of v)

abbrev pub is_absent : Answer → Bool
is_absent NoMember = true
is_absent _ = false
