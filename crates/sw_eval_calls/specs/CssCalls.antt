-- Calls that are written out as functions of CSS (the Sass specification on plain CSS functions).
use Rattle.std.specs.Prelude.{ℕ, Bool, true, false, not, ◌||◌, List, [], ◌∷◌, ◌++◌, codes, Ok}
use Rattle.sw_text.specs.declared.place.Span.{Span}
use Rattle.sw_tree.specs.declared.expr.Argument.{Argument}
use Rattle.sw_values.specs.declared.plain.Plain.{Plain}
use Rattle.sw_scope.specs.declared.passed.Passed.{Passed}
use Rattle.sw_scope.specs.Bind.{is_empty}
use Rattle.sw_scope.specs.Passed.{none_passed}
use Rattle.sw_eval_literals.specs.Answers.{Answer, with}
use Rattle.sw_eval_literals.specs.Literals.{string_value}
use Rattle.sw_eval_literals.specs.Texts.{css_text, joined}
use Rattle.sw_eval_calls.specs.Placing.{all_passed, at_argument}

-- an argument was passed by its name, or no parameters take the arguments
abbrev pub names_any : Passed → Bool
names_any p = p.faulty || not (is_empty p.named)

abbrev pub comma_behind : List (List ℕ) → List (List ℕ)
comma_behind [] = []
comma_behind (text ∷ texts) = codes ", " ∷ []

-- the texts of arguments behind those that are done, with a comma between two
abbrev pub argument_texts : List (List ℕ) → List Plain → Span → Answer (List (List ℕ))
argument_texts done [] span = Ok done
argument_texts done (v ∷ vs) span =
    with (css_text true v span) (λ text. argument_texts ((done ++ comma_behind done) ++ text ∷ []) vs span)

abbrev pub whole_call : List ℕ → List (List ℕ) → List (List ℕ)
whole_call name arguments = (name ∷ codes "(" ∷ []) ++ arguments ++ codes ")" ∷ []

-- the call of a function of this name with these values, as an unquoted string
unfoldable pub written_call : List ℕ → List Plain → Span → Answer Plain
written_call name vs span =
    with (argument_texts [] vs span)
    (λ texts. with (joined (whole_call name texts) span) (λ text. string_value text false span))

-- the same with these arguments and their values, which keep the sides of quotients; what can't be written is a fault at
-- its argument
unfoldable pub css_call : List ℕ → List Argument → List Plain → Span → Answer Plain
css_call name args vs span =
    at_argument true args vs (written_call name (all_passed none_passed args vs).items span)
