-- Places in a string, counted in characters from 1, or from its end where they are below zero (Sass reference
-- documentation, "sass:string").
use Rattle.std.specs.Prelude.{ℕ, suc, ◌+◌, ◌-◌, min, ℤ, unsigned_abs, Bool, List, [], ◌∷◌, ◌++◌, take, drop, length as len, chars, encode_utf8_all, nat_eq, Option, Some, None, Result, Ok, Err, if◌then◌else◌}
use Rattle.std.specs.List.{starts_with}
use Rattle.std.specs.Option.{option_map}
use Rattle.sw_fixed.specs.Arithmetic.{whole_of, is_below_zero}
use Rattle.sw_units.specs.declared.number.Number.{Number}
use Rattle.sw_units.specs.Units.{is_unitless}
use Rattle.sw_values.specs.declared.plain.Plain.{Plain}
use Rattle.sw_values.specs.declared.plain.Plain.TheVariants as P
use Rattle.sw_fn_call.specs.declared.fault.FnFault.{FnFault}
use Rattle.sw_fn_call.specs.declared.fault.FnFault.TheVariants as F
use Rattle.sw_fn_call.specs.Answers.{Answer, with, within, count, ordinal}
use Rattle.sw_fn_call.specs.Arguments.{Argument, one, two, three}
use Rattle.sw_fn_call.specs.Kinds.{number_of, text_of, is_quoted}

-- ---- how long it is, and where a part stands

abbrev pub length : List Argument → Answer
length args = with (one args) (λ value. with (text_of value) (λ text. Ok (count (len (chars text)))))

-- how many bytes stand before the first place of a part
abbrev pub first_in : List ℕ → List ℕ → Option ℕ
first_in part [] = if starts_with nat_eq [] part then Some 0 else None
first_in part (b ∷ bs) = if starts_with nat_eq (b ∷ bs) part then Some 0 else option_map suc (first_in part bs)

-- how many characters stand before the first place of a part
unfoldable pub place_in : List ℕ → List ℕ → Option ℕ
place_in text part = option_map (λ at. len (chars (take at text))) (first_in part text)

-- both arguments, which are strings
unfoldable pub two_texts : List Argument → Result (List ℕ × List ℕ) FnFault
two_texts args =
    with (two args) (λ values. with (text_of values.0) (λ text. with (text_of values.1) (λ part. Ok (text, part))))

abbrev pub index : List Argument → Answer
index args = with (two_texts args) (λ texts. Ok (ordinal (place_in texts.0 texts.1)))

-- ---- places by number

-- a place is a whole number without units
abbrev pub whole_by : Option ℤ → Result ℤ FnFault
whole_by (Some place) = Ok place
whole_by None = Err F.Index

abbrev pub whole_place : Number → Result ℤ FnFault
whole_place number = if is_unitless number.units then whole_by (whole_of number.value) else Err F.Index

-- how many of so many characters stand before that of a place; 0 counts as 1, and a place beyond the string as its end
-- or its start
abbrev pub start_place : ℤ → ℕ → ℕ
start_place place all = if is_below_zero place then all - unsigned_abs place else min (unsigned_abs place - 1) all

-- how many stand up to that of a place, with itself
abbrev pub end_place : ℤ → ℕ → ℕ
end_place place all = if is_below_zero place then all - (unsigned_abs place - 1) else min (unsigned_abs place) all

-- how many stand before what is inserted: -1 is the end
abbrev pub insert_place : ℤ → ℕ → ℕ
insert_place place all =
    if is_below_zero place then all - (unsigned_abs place - 1) else min (unsigned_abs place - 1) all

-- ---- parts of a string

-- the characters from one place to another
abbrev pub piece : List ℕ → ℕ → ℕ → List ℕ
piece text from to = encode_utf8_all (take (to - from) (drop from (chars text)))

-- a text with another one behind so many characters
abbrev pub inserted : List ℕ → List ℕ → ℕ → List ℕ
inserted text part place = encode_utf8_all (take place (chars text) ++ chars part ++ drop place (chars text))

-- an argument that is a place in a string
abbrev pub place_of : Plain → Result ℤ FnFault
place_of value = with (number_of value) whole_place

abbrev pub inserted_at : Bool → List ℕ → List ℕ → ℤ → Answer
inserted_at quoted text part place =
    within (P.Text (inserted text part (insert_place place (len (chars text)))) quoted)

-- quoted as the first argument is
abbrev pub insert : List Argument → Answer
insert args =
    with (three args)
    (λ values. with (text_of values.0)
    (λ text. with (text_of values.1)
    (λ part. with (place_of values.2) (λ place. inserted_at (is_quoted values.0) text part place))))

abbrev pub sliced : Bool → List ℕ → ℤ → ℤ → Answer
sliced quoted text from to =
    within (P.Text (piece text (start_place from (len (chars text))) (end_place to (len (chars text)))) quoted)

-- from one place to another with itself, quoted as the argument is
abbrev pub slice : List Argument → Answer
slice args =
    with (three args)
    (λ values. with (text_of values.0)
    (λ text. with (place_of values.1)
    (λ from. with (place_of values.2) (λ to. sliced (is_quoted values.0) text from to))))
