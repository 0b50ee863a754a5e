-- A number as a sheet writes it, with its sign and its unit (CSS Syntax Level 3, "Consume a numeric token").
use Rattle.std.specs.Prelude.{ℕ, ◌==◌, ◌||◌, if◌then◌else◌, List, [], ◌∷◌, Option, Some, None, slice_range, length, ℤ, Result, Ok, Err}
use Rattle.sw_fixed.specs.Reading.{number_in}
use Rattle.sw_fixed.specs.declared.fault.ReadFault.{ReadFault}
use Rattle.sw_text_scan.specs.Words.{unit_start}
use Rattle.sw_tree.specs.declared.expr.Number.{Number}

-- how many bytes a sign takes before the digits
abbrev pub sign_length : List ℕ → ℕ
sign_length [] = 0
sign_length (b ∷ bytes) = if (b == 43) || (b == 45) then 1 else 0

-- where the unit begins
abbrev pub unit_from : List ℕ → ℕ
unit_from text = unit_start text (sign_length text)

-- a value within the bound of numbers
abbrev pub within_bound : Result ℤ ReadFault → Option ℤ
within_bound (Ok value) = Some value
within_bound (Err _) = None

unfoldable pub numeral : List ℕ → Number
numeral text =
    record {
      value = within_bound (number_in (slice_range text 0 (unit_from text)));
      unit = slice_range text (unit_from text) (length text);
    }
