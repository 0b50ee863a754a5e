-- Built-in functions and variables (the Sass specification on built-in modules; the places of faults are this project's
-- own).
use Rattle.std.specs.Prelude.{ℕ, ℤ, false, List, [], ◌∷◌, ◌++◌, length, map, Option, Some, None, Result, Ok, Err}
use Rattle.sw_text.specs.declared.fault.FaultCode.{FaultCode}
use Rattle.sw_text.specs.declared.fault.FaultCode.TheVariants as C
use Rattle.sw_text.specs.declared.place.Span.{Span}
use Rattle.sw_tree.specs.declared.callable.Param.{Param}
use Rattle.sw_tree.specs.declared.expr.Argument.{Argument}
use Rattle.sw_tree.specs.declared.expr.Expr.{Expr}
use Rattle.sw_tree.specs.declared.expr.ExprKind.{out-ExprKind}
use Rattle.sw_tree.specs.declared.expr.ExprKind.TheOpen.{ExprKind-F, Parts-F}
use Rattle.sw_tree.specs.declared.text.Parts.{out-Parts}
use Rattle.sw_values.specs.declared.plain.Plain.{Plain}
use Rattle.sw_values.specs.declared.plain.Plain.TheVariants as N
use Rattle.sw_scope.specs.declared.passed.Passed.{Passed}
use Rattle.sw_scope.specs.declared.slots.Slot.{Slot}
use Rattle.sw_scope.specs.declared.slots.Slot.TheVariants.{Filled, Default}
use Rattle.sw_scope.specs.Frames.{Variable}
use Rattle.sw_scope.specs.Passed.{none_passed}
use Rattle.sw_fn_call.specs.declared.fault.FnFault.{FnFault}
use Rattle.sw_fn_call.specs.declared.fault.FnFault.TheVariants as F
use Rattle.sw_builtins.specs.declared.built_in.BuiltIn.{BuiltIn}
use Rattle.sw_builtins.specs.Signatures.{params_of}
use Rattle.sw_builtins.specs.Calls.{answer}
use Rattle.sw_builtins.specs.Tables.{variable_of}
use Rattle.sw_eval_literals.specs.Answers.{Answer, refused, with}
use Rattle.sw_eval_literals.specs.Literals.{number_value, word_value, constant_value}
use Rattle.sw_eval_literals.specs.Quotients.{plain_at}
use Rattle.sw_eval_calls.specs.Layers.{Kinds, Texts}
use Rattle.sw_eval_calls.specs.Passing.{Slots, plain_passed, bound_by, default_at}
use Rattle.sw_eval_calls.specs.Placing.{all_passed, at_argument}

-- the faults of functions; none of their meanings is want of memory
abbrev pub code_of : FnFault → FaultCode
code_of F.ArgumentFault = C.ArgumentFault
code_of F.TypeFault = C.TypeFault
code_of F.UnitFault = C.UnitFault
code_of F.DivideByZero = C.DivideByZero
code_of F.NumberRange = C.NumberRange
code_of F.NotCss = C.NotCss
code_of F.TooLarge = C.TooLarge
code_of F.Index = C.Index
code_of F.Memory = C.TooLarge

-- what a function answers, here
abbrev pub of_fn : Span → Result Plain FnFault → Answer Plain
of_fn span (Ok v) = Ok v
of_fn span (Err why) = refused (code_of why) span

-- ---- arguments

abbrev pub word_by : Texts → Span → Answer Plain
word_by (Parts-F.Plain text) span = word_value text span
word_by (Parts-F.Mixed ps) span = Ok N.Null

-- a default of a built-in function is a number, a constant or a word
abbrev pub constant_by : Kinds → Span → Answer Plain
constant_by (ExprKind-F.Number number) span = number_value number span
constant_by (ExprKind-F.Constant constant) span = Ok (constant_value constant)
constant_by (ExprKind-F.Word parts) span = word_by (out-Parts parts) span
constant_by _ span = Ok N.Null

abbrev pub constant_of : Option Expr → Span → Answer Plain
constant_of None span = Ok N.Null
constant_of (Some e) span = constant_by (out-ExprKind e.kind) span

abbrev pub filled_with : List Param → Slot → Span → Answer Plain
filled_with params (Filled v) span = Ok v
filled_with params (Default place) span = constant_of (default_at params place) span

-- the parameters with the values that fill them, behind those that are done
abbrev pub filled : List Variable → List Param → Slots → Span → Answer (List Variable)
filled done params [] span = Ok done
filled done params (slot ∷ slots) span =
    with (filled_with params slot.1 span) (λ v. filled (done ++ (slot.0, v) ∷ []) params slots span)

abbrev pub names_of : List Variable → List (List ℕ)
names_of named = map (λ v. v.0) named

abbrev pub arguments_by : BuiltIn → Passed → Span → Answer (List Variable)
arguments_by f p span =
    with (bound_by (params_of f (length p.items) (names_of p.named)) p span)
    (λ slots. filled [] (params_of f (length p.items) (names_of p.named)).items slots span)

-- by the arguments of a call that stands here
unfoldable pub built_in_arguments : BuiltIn → Passed → Span → Answer (List Variable)
built_in_arguments f p span = with (plain_passed p span) (λ plain. arguments_by f plain span)

-- ---- values

-- what a function gives for the arguments of a call that stands here, which keeps no sides
unfoldable pub built_in_value : BuiltIn → Passed → Span → Answer Plain
built_in_value f p span =
    with (built_in_arguments f p span) (λ vs. with (of_fn span (answer f vs)) (λ v. plain_at v span))

-- the same of a call with these arguments, which have these values; what can't be written in CSS is a fault at its
-- argument
unfoldable pub built_in_call : BuiltIn → List Argument → List Plain → Span → Answer Plain
built_in_call f args vs span = at_argument false args vs (built_in_value f (all_passed none_passed args vs) span)

abbrev pub variable_by : FaultCode → Option ℤ → Span → Answer Plain
variable_by unknown (Some v) span = number_value (record { value = Some v; unit = [] }) span
variable_by unknown None span = refused unknown span

-- the value of a variable of a built-in module, which stands here
abbrev pub built_in_variable : FaultCode → List ℕ → List ℕ → Span → Answer Plain
built_in_variable unknown home name span = variable_by unknown (variable_of home name) span
