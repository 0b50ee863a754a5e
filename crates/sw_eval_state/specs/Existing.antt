-- Functions that ask what is declared (the Sass reference documentation on `sass:meta`; the places of faults are this
-- project's own).
use Rattle.std.specs.Prelude.{ℕ, Bool, true, false, if◌then◌else◌, List, [], ◌∷◌, Option, Some, None, Ok}
use Rattle.std.specs.Option.{is_some}
use Rattle.sw_text.specs.Names.{dashed}
use Rattle.sw_text.specs.declared.fault.FaultCode.TheVariants as C
use Rattle.sw_text.specs.declared.place.Span.{Span}
use Rattle.sw_tree.specs.declared.callable.Kind.TheVariants as K
use Rattle.sw_tree.specs.declared.expr.Constant.TheVariants as constants
use Rattle.sw_values.specs.declared.plain.Plain.{Plain}
use Rattle.sw_values.specs.declared.value.Node.{Node}
use Rattle.sw_values.specs.declared.value.Node.TheVariants as nodes
use Rattle.sw_values.specs.Shape.{node_of}
use Rattle.sw_scope.specs.Frames.{Variable}
use Rattle.sw_builtins.specs.declared.built_in.Found.{Found}
use Rattle.sw_builtins.specs.declared.built_in.Found.TheVariants as F
use Rattle.sw_builtins.specs.Tables.{found}
use Rattle.sw_eval_literals.specs.Answers.{Answer as Outcome, refused}
use Rattle.sw_eval_literals.specs.Literals.{constant_value}
use Rattle.sw_world.specs.declared.answer.Answer.{Answer}
use Rattle.sw_world.specs.declared.answer.Answer.TheVariants as A
use Rattle.sw_eval_questions.specs.Talk.{Gives, Fails}
use Rattle.sw_eval_questions.specs.Asking.{fault}
use Rattle.sw_eval_state.specs.Eval.{Eval}
use Rattle.sw_eval_state.specs.declared.here.Inside.{Inside}
use Rattle.sw_eval_state.specs.declared.here.Inside.TheVariants as I

abbrev pub truth : Bool → Plain
truth holds = constant_value (if holds then constants.True else constants.False)

-- ---- arguments

abbrev pub text_by : Node → Option (List ℕ)
text_by (nodes.Text text quoted) = Some text
text_by _ = None

-- the text of a string
abbrev pub text_in : Plain → Option (List ℕ)
text_in v = text_by (node_of v)

abbrev pub name_by : Option (List ℕ) → Span → Outcome (List ℕ)
name_by (Some text) span = Ok (dashed text)
name_by None span = refused C.TypeFault span

-- the name that the first argument is
abbrev pub name_in : List Variable → Span → Outcome (List ℕ)
name_in [] span = refused C.ArgumentFault span
name_in (v ∷ vs) span = name_by (text_in v.1) span

abbrev pub module_by : Node → Span → Outcome (Option (List ℕ))
module_by nodes.Null span = Ok None
module_by (nodes.Text text quoted) span = Ok (Some text)
module_by _ span = refused C.TypeFault span

-- the namespace that the second argument is, where it isn't null
abbrev pub module_in : List Variable → Span → Outcome (Option (List ℕ))
module_in (v ∷ w ∷ vs) span = module_by (node_of w.1) span
module_in _ span = Ok None

-- ---- answers

-- a member was found, in a call that stands here
abbrev pub exists_by : Answer → Span → Eval Bool
exists_by (A.Owner path name) span s = Gives (true, s)
exists_by (A.Callable site body) span s = Gives (true, s)
exists_by (A.BuiltIn home name) span s = Gives (true, s)
exists_by A.NoNamespace span s = Fails (fault C.UnknownNamespace span)
exists_by A.Conflict span s = Fails (fault C.MemberConflict span)
exists_by _ span s = Gives (false, s)

abbrev pub is_known : Found → Bool
is_known (F.Known b) = true
is_known F.LeftOut = false
is_known F.NoSuch = false

-- the name is that of a built-in function without a namespace
abbrev pub is_built_in : List ℕ → Bool
is_built_in name = is_known (found None K.Function name)

abbrev pub content_by : Inside → Span → Eval Bool
content_by I.Mixin span s = Gives (is_some s.here.content, s)
content_by I.Sheet span s = Fails (fault C.ArgumentFault span)
content_by I.Function span s = Fails (fault C.ArgumentFault span)

-- the running mixin was given a content block
abbrev pub content_exists : Span → Eval Bool
content_exists span s = content_by s.here.inside span s
