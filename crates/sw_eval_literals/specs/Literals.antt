-- What literals stand for (the Sass specification on types and expressions; names and hex forms of colours are those of
-- CSS Color Level 4).
use Rattle.std.specs.Prelude.{ℕ, ℤ, Bool, true, false, List, [], ◌∷◌, codes, Option, Some, None, Ok}
use Rattle.sw_text.specs.declared.fault.FaultCode.TheVariants as C
use Rattle.sw_text.specs.declared.place.Span.{Span}
use Rattle.sw_units.specs.declared.units.Units.{Units}
use Rattle.sw_units.specs.declared.units.UnitNames.{UnitNames}
use Rattle.sw_units.specs.declared.units.UnitNames.TheVariants.{Empty, One}
use Rattle.sw_units.specs.Numbers.{plain}
use Rattle.sw_colour.specs.Colours.{Rgba}
use Rattle.sw_colour.specs.Names.{colour_named}
use Rattle.sw_colour.specs.Hex.{colour_in}
use Rattle.sw_values.specs.declared.plain.Plain.{Plain}
use Rattle.sw_values.specs.declared.plain.Plain.TheVariants as P
use Rattle.sw_tree.specs.declared.expr.Number.{Number}
use Rattle.sw_tree.specs.declared.expr.Constant.{Constant}
use Rattle.sw_tree.specs.declared.expr.Constant.TheVariants as constants
use Rattle.sw_eval_literals.specs.Answers.{Answer, refused, within}

-- ---- numbers

-- the unit as the sheet writes it, if any
abbrev pub unit_names : List ℕ → UnitNames
unit_names [] = Empty
unit_names (letter ∷ letters) = One (letter ∷ letters)

abbrev pub units_of : List ℕ → Units
units_of unit = record { over = unit_names unit; under = Empty }

abbrev pub number_by : Option ℤ → List ℕ → Span → Answer Plain
number_by (Some value) unit span = Ok (P.Number (plain (units_of unit) value))
number_by None unit span = refused C.NumberRange span

-- a number beyond the greatest is refused
unfoldable pub number_value : Number → Span → Answer Plain
number_value number span = number_by number.value number.unit span

-- ---- strings

-- the whole text of a string, a url or a word that isn't a colour
unfoldable pub string_value : List ℕ → Bool → Span → Answer Plain
string_value text quoted span = within (P.Text text quoted) span

abbrev pub colour_or : Option Rgba → List ℕ → Span → Answer Plain
colour_or (Some colour) text span = Ok (P.Colour colour)
colour_or None text span = string_value text false span

-- a word in which no value stands: the colour of this name in any case, spelt as written, else an unquoted string
unfoldable pub word_value : List ℕ → Span → Answer Plain
word_value text span = colour_or (colour_named text) text span

-- `#` and what stands behind it: a colour by its hex digits, else an unquoted string
unfoldable pub hash_value : List ℕ → Span → Answer Plain
hash_value text span = colour_or (colour_in text) text span

-- ---- constants

abbrev pub constant_value : Constant → Plain
constant_value constants.True = P.Bool true
constant_value constants.False = P.Bool false
constant_value constants.Null = P.Null

-- `!important`
abbrev pub important_value : Plain
important_value = P.Text (codes "!important") false
