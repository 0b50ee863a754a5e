-- The selectors of a rule, and `&` (the Sass specification on style rules; places of faults are this project's own).
use Rattle.std.specs.Prelude.{ℕ, Bool, false, ◌||◌, List, [], ◌∷◌, ◌++◌, Option, Some, None, Result, Ok, Err}
use Rattle.sw_text.specs.declared.fault.FaultCode.{FaultCode}
use Rattle.sw_text.specs.declared.fault.FaultCode.TheVariants as C
use Rattle.sw_text.specs.declared.place.Span.{Span}
use Rattle.sw_tree.specs.declared.expr.Separator.TheVariants as separators
use Rattle.sw_tree.specs.declared.expr.Around.TheVariants as arounds
use Rattle.sw_values.specs.declared.plain.Plain.{Plain}
use Rattle.sw_values.specs.declared.plain.Plain.TheVariants as N
use Rattle.sw_selector.specs.declared.selector.Part.{Part}
use Rattle.sw_selector.specs.declared.fault.SelectorFault.{SelectorFault}
use Rattle.sw_selector.specs.declared.fault.SelectorFault.TheVariants as S
use Rattle.sw_selector.specs.Reading.{selectors_of}
use Rattle.sw_selector.specs.Nesting.{alone_by, under_by}
use Rattle.sw_selector.specs.Writing.{all_units}
use Rattle.sw_eval_literals.specs.Answers.{Answer, with}
use Rattle.sw_eval_literals.specs.Literals.{string_value}
use Rattle.sw_eval_literals.specs.Lists.{list_value}
use Rattle.sw_eval_questions.specs.Talk.{Gives, Fails}
use Rattle.sw_eval_questions.specs.Asking.{fault}
use Rattle.sw_eval_questions.specs.Refusals.{answer}
use Rattle.sw_eval_state.specs.Eval.{Eval}
use Rattle.sw_eval_state.specs.Nestings.{is_at_root}

abbrev pub Selectors : Type 0
Selectors = List (List Part)

-- selectors, or why there are none
abbrev pub Selection : Type 0
Selection = Result Selectors SelectorFault

-- the faults of selectors; none of their meanings is want of memory
abbrev pub selector_code : SelectorFault → FaultCode
selector_code S.BadSelector = C.BadSelector
selector_code S.NoParent = C.NoParent
selector_code S.TooLarge = C.TooLarge
selector_code S.Memory = C.TooLarge

-- nested in those of the rule around them, where there is one; at the root those without `&` stand by themselves
abbrev pub nested_by : Bool → Option Selectors → Selectors → Selection
nested_by at_root None child = alone_by child
nested_by at_root (Some parents) child = under_by at_root parents child

abbrev pub nested_in : Bool → Option Selectors → Selection → Selection
nested_in at_root parents (Ok child) = nested_by at_root parents child
nested_in at_root parents (Err why) = Err why

-- their text stands here
abbrev pub selected_by : Span → Selection → Eval Selectors
selected_by span (Ok selectors) s = Gives (selectors, s)
selected_by span (Err why) s = Fails (fault (selector_code why) span)

-- the selectors of a rule, in `@at-root` or not
unfoldable pub selected : Bool → List ℕ → Span → Eval Selectors
selected at_root text span s =
    selected_by span (nested_in (at_root || is_at_root s.nesting.rules) s.nesting.parents (selectors_of text)) s

-- ---- `&`

abbrev pub words_of : List Plain → List (List ℕ) → Span → Answer (List Plain)
words_of done [] span = Ok done
words_of done (text ∷ texts) span =
    with (string_value text false span) (λ word. words_of (done ++ word ∷ []) texts span)

-- a space list of the texts of compounds and combinators
unfoldable pub complex_of : List (List ℕ) → Span → Answer Plain
complex_of texts span = with (words_of [] texts span) (λ words. list_value words separators.Space arounds.Nothing span)

abbrev pub complexes_of : List Plain → List (List (List ℕ)) → Span → Answer (List Plain)
complexes_of done [] span = Ok done
complexes_of done (texts ∷ more) span =
    with (complex_of texts span) (λ complex. complexes_of (done ++ complex ∷ []) more span)

-- a comma list of them, and null where no rule is around
unfoldable pub parent_by : Option Selectors → Span → Answer Plain
parent_by None span = Ok N.Null
parent_by (Some selectors) span =
    with (complexes_of [] (all_units [] selectors) span)
    (λ complexes. list_value complexes separators.Comma arounds.Nothing span)

unfoldable pub parent : Span → Eval Plain
parent span s = answer (parent_by s.nesting.parents span) s
