-- The variables of loops (the Sass specification on flow control).
use Rattle.std.specs.Prelude.{ℕ, List, [], ◌∷◌, length}
use Rattle.sw_text.specs.declared.place.Span.{Span}
use Rattle.sw_values.specs.declared.plain.Plain.{Plain}
use Rattle.sw_values.specs.declared.plain.Plain.TheVariants as N
use Rattle.sw_scope.specs.Scopes.{declare}
use Rattle.sw_eval_literals.specs.Counting.{Count, counted}
use Rattle.sw_eval_literals.specs.Elements.{taken_apart}
use Rattle.sw_eval_questions.specs.Talk.{Gives, bind}
use Rattle.sw_eval_questions.specs.Refusals.{answer}
use Rattle.sw_eval_state.specs.Scope.{set_by}
use Rattle.sw_eval_state.specs.Eval.{Eval}
use Rattle.sw_eval_state.specs.declared.state.State.{State}

-- a new variable of the innermost frame, which is null
unfoldable pub null_declared : List ℕ → State → State
null_declared name s = record s { scopes = declare s.scopes (name, N.Null) }

abbrev pub nulls_declared : List (List ℕ) → State → State
nulls_declared [] s = s
nulls_declared (name ∷ names) s = nulls_declared names (null_declared name s)

-- each of the names is given its value
abbrev pub all_set : List (List ℕ) → List Plain → State → State
all_set [] vs s = s
all_set (name ∷ names) [] s = s
all_set (name ∷ names) (v ∷ vs) s = all_set names vs (set_by s (name, v))

-- they are given an element of a list that stands here, taken apart
unfoldable pub apart : List (List ℕ) → Plain → Span → Eval (Unit {0})
apart names v span s =
    bind (answer (taken_apart (length names) v span) s) (λ ps. Gives (tt, all_set names ps.0 ps.1))

-- the variable is given the number of a turn
unfoldable pub counted_to : List ℕ → Count → ℕ → State → State
counted_to name c turn s = set_by s (name, counted c turn)
