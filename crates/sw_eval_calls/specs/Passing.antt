-- What a call passes, and what its parameters are given (the Sass specification on arguments; the order in which what is
-- wrong with a call is told, and the places of faults, are this project's own).
use Rattle.std.specs.Prelude.{ℕ, Bool, true, if◌then◌else◌, List, [], ◌∷◌, ◌++◌, Option, Some, None, slice_get, Ok}
use Rattle.sw_text.specs.declared.fault.FaultCode.TheVariants as C
use Rattle.sw_text.specs.declared.place.Span.{Span}
use Rattle.sw_tree.specs.declared.callable.Param.{Param}
use Rattle.sw_tree.specs.declared.callable.Params.{Params}
use Rattle.sw_tree.specs.declared.expr.Argument.{Argument}
use Rattle.sw_tree.specs.declared.expr.Expr.{Expr}
use Rattle.sw_values.specs.declared.plain.Plain.{Plain}
use Rattle.sw_values.specs.Weight.{is_within}
use Rattle.sw_scope.specs.declared.passed.Passed.{Passed}
use Rattle.sw_scope.specs.declared.slots.Slot.{Slot}
use Rattle.sw_scope.specs.Frames.{Variable}
use Rattle.sw_scope.specs.Passed.{pass, pass_named, spread}
use Rattle.sw_scope.specs.Bind.{accepts, rest_value, slots as slots_of}
use Rattle.sw_eval_literals.specs.Answers.{Answer, refused, with}
use Rattle.sw_eval_literals.specs.Quotients.{plain_at}

-- what parameters are given, in their order
abbrev pub Slots : Type 0
Slots = List (List ℕ × Slot)

-- ---- arguments

abbrev pub named_by : Passed → Option (List ℕ) → Plain → Passed
named_by p (Some name) v = pass_named p name v
named_by p None v = pass p v

-- the value of an argument is passed
unfoldable pub passed_on : Passed → Argument → Plain → Passed
passed_on p a v = if a.spread then spread p v else named_by p a.name v

-- without the sides that quotients keep, in a call that stands here
abbrev pub plains : List Plain → List Plain → Span → Answer (List Plain)
plains done [] span = Ok done
plains done (v ∷ vs) span = with (plain_at v span) (λ plain. plains (done ++ plain ∷ []) vs span)

abbrev pub plain_named : List Variable → List Variable → Span → Answer (List Variable)
plain_named done [] span = Ok done
plain_named done (v ∷ vs) span =
    with (plain_at v.1 span) (λ plain. plain_named (done ++ (v.0, plain) ∷ []) vs span)

unfoldable pub plain_passed : Passed → Span → Answer Passed
plain_passed p span =
    with (plains [] p.items span)
    (λ items. with (plain_named [] p.named span) (λ named. Ok (record p { items = items; named = named })))

-- ---- what parameters are given

abbrev pub rest_within : Option (List ℕ) → Plain → Bool
rest_within None v = true
rest_within (Some name) v = is_within v

-- by plain arguments, which the parameters have to take
unfoldable pub bound_by : Params → Passed → Span → Answer Slots
bound_by params p span =
    if accepts params p
    then (if rest_within params.rest (rest_value params p) then Ok (slots_of params p) else refused C.TooLarge span)
    else refused C.ArgumentFault span

-- by the arguments of a call that stands here
unfoldable pub bound : Params → Passed → Span → Answer Slots
bound params p span = with (plain_passed p span) (λ plain. bound_by params plain span)

abbrev pub default_by : Option Param → Option Expr
default_by None = None
default_by (Some param) = param.default

-- the default of the parameter at a place
abbrev pub default_at : List Param → ℕ → Option Expr
default_at params place = default_by (slice_get params place)
