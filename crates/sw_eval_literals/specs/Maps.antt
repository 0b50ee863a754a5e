-- Maps (the Sass specification on maps): no two keys are equal.
use Rattle.std.specs.Prelude.{ℕ, ◌+◌, Bool, true, false, bytes_eq, if◌then◌else◌, List, [], ◌∷◌, ◌++◌, slice_get, Option, Some, None, Ok}
use Rattle.std.specs.List.{list_any}
use Rattle.sw_text.specs.declared.fault.FaultCode.TheVariants as C
use Rattle.sw_text.specs.declared.place.Span.{Span}
use Rattle.sw_values.specs.declared.plain.Plain.{Plain}
use Rattle.sw_values.specs.declared.plain.Plain.TheVariants as P
use Rattle.sw_values.specs.Canon.{key_canon}
use Rattle.sw_values.specs.Weight.{is_within}
use Rattle.sw_tree.specs.declared.expr.Pair.{Pair}
use Rattle.sw_eval_literals.specs.Answers.{Answer, refused}

-- the place of the first key that is equal to one before or to one of these, by what of them counts for `==`; the first
-- pair has this number
abbrev pub second_key : List (List ℕ) → List (Plain × Plain) → ℕ → Option ℕ
second_key seen [] number = None
second_key seen (pair ∷ pairs) number =
    if list_any (bytes_eq (key_canon pair)) seen then Some number
    else second_key (seen ++ key_canon pair ∷ []) pairs (number + 1)

-- where the key of a pair is written; the map's own place where it isn't
abbrev pub key_by : Option Pair → Span → Span
key_by (Some pair) span = pair.key.span
key_by None span = span

abbrev pub key_place : List Pair → ℕ → Span → Span
key_place written number span = key_by (slice_get written number) span

abbrev pub within_by : Bool → Plain → Span → Answer Plain
within_by true value span = Ok value
within_by false value span = refused C.TooLarge span

abbrev pub distinct_by : Option ℕ → List (Plain × Plain) → List Pair → Span → Answer Plain
distinct_by None pairs written span = within_by (is_within (P.Map pairs)) (P.Map pairs) span
distinct_by (Some number) pairs written span = refused C.DuplicateKey (key_place written number span)

-- the map of these pairs, written here: a key that comes a second time is refused, and then a map that is too heavy or
-- too deep, as a whole
unfoldable pub map_value : List (Plain × Plain) → List Pair → Span → Answer Plain
map_value pairs written span = distinct_by (second_key [] pairs 0) pairs written span
