-- What a turn of `@each` gives its variables (the Sass specification on `@each`).
use Rattle.std.specs.Prelude.{ℕ, zero, suc, ◌==◌, if◌then◌else◌, List, [], ◌∷◌, Option, Some, None, Ok}
use Rattle.sw_text.specs.declared.place.Span.{Span}
use Rattle.sw_values.specs.declared.plain.Plain.{Plain}
use Rattle.sw_values.specs.declared.plain.Plain.TheVariants as P
use Rattle.sw_values.specs.Items.{items_of}
use Rattle.sw_eval_literals.specs.Answers.{Answer, with}
use Rattle.sw_eval_literals.specs.Quotients.{plain_at}

abbrev pub or_null : Option Plain → Plain
or_null (Some value) = value
or_null None = P.Null

-- the first so many, and null for each that is missing
abbrev pub filled : ℕ → List Plain → List Plain
filled zero values = []
filled (suc count) [] = P.Null ∷ filled count []
filled (suc count) (value ∷ values) = value ∷ filled count values

-- one variable is given the element itself, and several its items
abbrev pub parts_of : ℕ → Plain → List Plain
parts_of count element = if count == 1 then element ∷ [] else filled count (items_of element)

-- each as it is stored
abbrev pub all_plain : List Plain → Span → Answer (List Plain)
all_plain [] span = Ok []
all_plain (value ∷ values) span =
    with (plain_at value span) (λ first. with (all_plain values span) (λ rest. Ok (first ∷ rest)))

-- the values of so many variables in a turn over a list that stands here
unfoldable pub taken_apart : ℕ → Plain → Span → Answer (List Plain)
taken_apart count element span = all_plain (parts_of count element) span
