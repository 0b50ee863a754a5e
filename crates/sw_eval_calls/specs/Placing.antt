-- What the arguments of a call pass, and where the fault of one stands that can't be written in CSS (the Sass
-- specification on arguments; the places of faults are this project's own).
use Rattle.std.specs.Prelude.{Bool, true, false, ◌&&◌, if◌then◌else◌, List, [], ◌∷◌, Ok, Err}
use Rattle.std.specs.List.{list_all}
use Rattle.sw_text.specs.declared.fault.FaultCode.{FaultCode}
use Rattle.sw_text.specs.declared.fault.FaultCode.TheVariants as C
use Rattle.sw_text.specs.declared.place.Span.{Span}
use Rattle.sw_tree.specs.declared.expr.Argument.{Argument}
use Rattle.sw_values.specs.declared.plain.Plain.{Plain}
use Rattle.sw_values.specs.Texts.{shown}
use Rattle.sw_scope.specs.declared.passed.Passed.{Passed}
use Rattle.sw_scope.specs.Frames.{Variable}
use Rattle.sw_scope.specs.Passed.{none_passed}
use Rattle.sw_eval_literals.specs.Answers.{Answer, refused}
use Rattle.sw_eval_calls.specs.Passing.{passed_on, plain_passed}

-- the values of arguments behind those that are passed
abbrev pub all_passed : Passed → List Argument → List Plain → Passed
all_passed p [] vs = p
all_passed p (a ∷ args) [] = p
all_passed p (a ∷ args) (v ∷ vs) = all_passed (passed_on p a v) args vs

-- ---- what can be written in CSS

abbrev pub is_css : Plain → Bool
is_css v = (shown true v).css

abbrev pub are_css : List Plain → Bool
are_css = list_all is_css

abbrev pub named_css : List Variable → Bool
named_css = list_all (λ v. is_css v.1)

-- all that is passed
abbrev pub passes_css : Passed → Bool
passes_css p = are_css p.items && named_css p.named

abbrev pub answer_css : Answer Passed → Bool
answer_css (Ok p) = passes_css p
answer_css (Err fault) = true

-- with the sides that quotients keep, or without them
abbrev pub sides_css : Bool → Passed → Span → Bool
sides_css true p span = passes_css p
sides_css false p span = answer_css (plain_passed p span)

-- all that an argument of this value passes
unfoldable pub is_writable : Bool → Argument → Plain → Bool
is_writable sides a v = sides_css sides (passed_on none_passed a v) a.value.span

-- ---- places

-- where the first argument stands that can't be written; here where there is none
abbrev pub unwritable : Bool → List Argument → List Plain → Span → Span
unwritable sides [] vs span = span
unwritable sides (a ∷ args) [] span = span
unwritable sides (a ∷ args) (v ∷ vs) span =
    if is_writable sides a v then unwritable sides args vs span else a.value.span

abbrev pub is_not_css : FaultCode → Bool
is_not_css C.NotCss = true
is_not_css _ = false

-- what a call answers; the fault of what can't be written stands at its argument
abbrev pub at_argument : Bool → List Argument → List Plain → Answer Plain → Answer Plain
at_argument sides args vs (Ok v) = Ok v
at_argument sides args vs (Err fault) =
    if is_not_css fault.code then refused C.NotCss (unwritable sides args vs fault.span) else Err fault
