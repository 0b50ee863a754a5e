-- Numbers as a sheet is written with them: the digits of the value, and the unit (CSS Syntax Level 3, "Consume a number"
-- and "Consume a numeric token").
use Rattle.std.specs.Prelude.{◌≡◌, ◌≤◌, ◌<◌, ℕ, ◌%◌, List, [], ◌∷◌, ◌++◌, length, Bool, true, false, not, ◌&&◌, ◌||◌, ◌==◌, nat_lt, if◌then◌else◌, codes, Option, Some, None, ℤ, pos, Ok, Err}
use Rattle.std.specs.List.{list_all}
use Rattle.sw_fixed.specs.Arithmetic.{scale, limit, IsWithin}
use Rattle.sw_fixed.specs.Reading.{number_in}
use Rattle.sw_fixed.specs.Text.{fraction_text, text_of}
use Rattle.sw_fixed.specs.declared.fault.ReadFault.TheVariants.{NumberRange}
use Rattle.sw_text_scan.specs.declared.runs.Class.TheVariants as classes
use Rattle.sw_text_scan.specs.Bytes.{sign, byte, is_digit, starts_plainly}
use Rattle.sw_text_scan.specs.Runs.{next}
use Rattle.sw_text_scan.specs.Words.{is_exponent, is_plus_or_minus, exponent_end, unit_end}
use Rattle.sw_tokens.specs.declared.pieces.Before.{Before}
use Rattle.sw_tokens.specs.declared.pieces.Change.TheVariants as changes
use Rattle.sw_tokens.specs.declared.skips.Inside.{Inside}
use Rattle.sw_tokens.specs.declared.token.TokenKind.{TokenKind}
use Rattle.sw_tokens.specs.declared.token.TokenKind.TheVariants as kinds
use Rattle.sw_tokens.specs.Pieces.{made, after_hash, piece}
use Rattle.sw_convert_spelling.specs.Spelt.{is_sheet_code}

-- a unit of which digits would take an `e` and the digits behind it for an exponent
abbrev pub begins_exponent : List ℕ → Bool
begins_exponent [] = false
begins_exponent (b ∷ []) = false
begins_exponent (b ∷ c ∷ unit) = is_exponent b && is_digit c

-- an exponent that changes no value
abbrev pub no_exponent : Bool → List ℕ
no_exponent true = codes "e0"
no_exponent false = []

-- the number that stands before a unit; of a value beyond the bound of numbers any number beyond it
abbrev pub value_text : Option ℤ → List ℕ → List ℕ
value_text (Some value) unit = text_of value ++ no_exponent (begins_exponent unit)
value_text None unit = codes "1e28"

-- a number and its unit
abbrev pub numeral_text : Option ℤ → List ℕ → List ℕ
numeral_text value unit = value_text value unit ++ unit

-- what is written of a value is read as it, whatever unit stands behind
abbrev pub IsReadBack : Option ℤ → List ℕ → Type 0
IsReadBack (Some value) unit = IsWithin value → number_in (value_text (Some value) unit) ≡ Ok value
IsReadBack None unit = number_in (value_text None unit) ≡ Err NumberRange

-- ---- as tokens

-- behind the digits of a number, no digit, fraction or exponent begins, and the unit ends where its bytes do
abbrev pub ends_number : List ℕ → List ℕ → Bool
ends_number unit after =
    not (is_digit (byte (unit ++ after) 0))
    && (not ((byte (unit ++ after) 0 == sign ".") && is_digit (byte (unit ++ after) 1))
    && ((begins_exponent unit || (exponent_end (unit ++ after) 0 == 0)) && (unit_end (unit ++ after) 0 == length unit)))

-- digits alone, or with a unit that isn't `%`
abbrev pub numeral_kind : ℕ → List ℕ → TokenKind
numeral_kind value unit =
    if (length (fraction_text (value % scale) ++ no_exponent (begins_exponent unit)) == 0) && not (byte unit 0 == sign "%")
    then kinds.Digits else kinds.Number

-- what is written of a number that isn't below zero, and its unit, is one token
abbrev pub IsNumeralToken : ℕ → List ℕ → Inside → Before → List ℕ → Type 0
IsNumeralToken value unit inside before after =
    value ≤ limit → ends_number unit after ≡ true → is_sheet_code inside ≡ true → after_hash before ≡ false
    → piece (numeral_text (Some (pos value)) unit ++ after) inside before 0
    ≡ made (numeral_kind value unit) (length (numeral_text (Some (pos value)) unit)) changes.Keep

-- a number with a unit of letters ends before what goes on with no unit, and is no `+` or `-`, with which a unit that is
-- an `e` would be an exponent
abbrev pub IsLetterUnit : List ℕ → List ℕ → Type 0
IsLetterUnit unit after =
    list_all starts_plainly unit ≡ true → 0 < length unit → nat_lt 0 (next classes.Unit after 0) ≡ false
    → is_plus_or_minus (byte after 0) ≡ false → ends_number unit after ≡ true
