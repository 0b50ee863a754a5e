-- Worked cases, by computing.
use Rattle.std.proofs.Common.{◌≡◌, ℕ, ℤ, pos, Bool, true, false, List, [], ◌∷◌, codes, Some, None, Ok, refl}
use Rattle.sw_text.specs.declared.place.Span.{Span}
use Rattle.sw_text.specs.declared.fault.FaultCode.TheVariants as C
use Rattle.sw_units.specs.declared.units.UnitNames.TheVariants.{Empty, One}
use Rattle.sw_units.specs.declared.number.Number.{Number}
use Rattle.sw_units.specs.Measures.{measure_of}
use Rattle.sw_units.specs.Numbers.{plain, converted}
use Rattle.sw_colour.specs.Names.{table}
use Rattle.sw_values.specs.declared.plain.Plain.TheVariants as P
use Rattle.sw_tree.specs.declared.expr.Separator.TheVariants as separators
use Rattle.sw_tree.specs.declared.expr.Around.TheVariants as arounds
use Rattle.sw_eval_literals.specs.declared.quotients.Parens.TheVariants as parens
use Rattle.sw_eval_literals.specs.Answers.{Answer, refused}
use Rattle.sw_eval_literals.specs.Literals.{units_of, number_value, word_value, hash_value}
use Rattle.sw_eval_literals.specs.Quotients.{may_keep, deeper, of_item}
use Rattle.sw_eval_literals.specs.Counting.{Count, whole, moved}
use Rattle.sw_eval_literals.specs.Elements.{filled}

-- ---- which quotients keep their sides

-- 1/2, [1/2] and f(1/2)
outside_example : (may_keep parens.Outside ≡ true) × (may_keep (of_item parens.Outside separators.Undecided arounds.Brackets) ≡ true) × (may_keep (deeper parens.Outside) ≡ true)
outside_example = (refl, refl, refl)

-- (1/2, 3) and ([1/2])
inside_example : (may_keep (of_item parens.Outside separators.Comma arounds.Parens) ≡ false) × (may_keep (of_item parens.Inside separators.Undecided arounds.Brackets) ≡ false)
inside_example = (refl, refl)

-- (1 2/3 4), and (f(2/3) 4)
item_example : (may_keep (of_item parens.Outside separators.Space arounds.Parens) ≡ true) × (may_keep (deeper (of_item parens.Outside separators.Space arounds.Parens)) ≡ false)
item_example = (refl, refl)

-- (hsl(180 60% 50% / 0.4))
alpha_example : may_keep (of_item (deeper parens.Inside) separators.Space arounds.Nothing) ≡ true
alpha_example = refl

-- ---- literals

-- 1.5px
number_example : (at : Span) → number_value (record { value = Some (pos 15000000000); unit = codes "px" }) at
    ≡ Ok (P.Number (plain (record { over = One (codes "px"); under = Empty }) (pos 15000000000)))
unfolding number_value
number_example at = refl

-- 1e99
range_example : (at : Span) → number_value (record { value = None; unit = [] }) at ≡ refused C.NumberRange at
unfolding number_value
range_example at = refl

-- ReD
name_example : (at : Span) → word_value (codes "ReD") at
    ≡ Ok (P.Colour (record { red = 255; green = 0; blue = 0; alpha = pos 10000000000; spelt = Some (codes "ReD") }))
unfolding word_value table
name_example at = refl

-- #0f08
hex_example : (at : Span) → hash_value (codes "#0f08") at
    ≡ Ok (P.Colour (record { red = 0; green = 255; blue = 0; alpha = pos 5333333333; spelt = Some (codes "#0f08") }))
unfolding hash_value
hex_example at = refl

-- ---- counts

abbrev of : List ℕ → ℤ → Number
of unit value = plain (units_of unit) value

-- the numbers of the first three turns
abbrev numbers : Answer Count → List ℤ
numbers (Ok count) = moved count.down count.first 0 ∷ moved count.down count.first 1 ∷ moved count.down count.first 2 ∷ []
numbers _ = []

abbrev turns : Answer Count → List ℕ
turns (Ok count) = count.turns ∷ []
turns _ = []

-- from 3 through 1, and from 3 to 1
down_example : (at : Span) → let down = λ (through : Bool). whole (of [] (pos 30000000000)) (Ok (pos 10000000000)) through at in
    (numbers (down true) ≡ pos 30000000000 ∷ pos 20000000000 ∷ pos 10000000000 ∷ []) × (turns (down true) ≡ 3 ∷ []) × (turns (down false) ≡ 2 ∷ [])
down_example at = (refl, refl, refl)

-- from 1 through 1, and from 1 to 1
one_example : (at : Span) → let one = λ (through : Bool). whole (of [] (pos 10000000000)) (Ok (pos 10000000000)) through at in
    (turns (one true) ≡ 1 ∷ []) × (turns (one false) ≡ 0 ∷ [])
one_example at = (refl, refl)

-- from 1 to 2.5
whole_example : (at : Span) → whole (of [] (pos 10000000000)) (Ok (pos 25000000000)) false at ≡ refused C.ArgumentFault at
whole_example at = refl

-- from 96px to 2in, which is 192px
inch_example : (at : Span) → let from = of (codes "px") (pos 960000000000) in
    turns (whole from (converted (of (codes "in") (pos 20000000000)) from.units) false at) ≡ 96 ∷ []
unfolding measure_of
inch_example at = refl

-- ---- elements

-- three variables for the items of (true null), and one for those of (true null)
filled_example : (filled 3 (P.Bool true ∷ P.Null ∷ []) ≡ P.Bool true ∷ P.Null ∷ P.Null ∷ []) × (filled 1 (P.Bool true ∷ P.Null ∷ []) ≡ P.Bool true ∷ [])
filled_example = (refl, refl)
