-- A number as the text of a special function has it (CSS Syntax Level 3, "Consume a numeric token").
use Rattle.std.specs.Prelude.{ℕ, ℤ, ◌==◌, ◌||◌, if◌then◌else◌, List, [], ◌∷◌, length, Option, Some, None, Result, Ok, Err}
use Rattle.sw_fixed.specs.Reading.{number_in}
use Rattle.sw_fixed.specs.declared.fault.ReadFault.{ReadFault}
use Rattle.sw_text_scan.specs.Bytes.{sign}
use Rattle.sw_text_scan.specs.Pieces.{piece}
use Rattle.sw_text_scan.specs.Words.{unit_start}
use Rattle.sw_tree.specs.declared.expr.Number.{Number}

-- how many bytes a sign takes before the digits
abbrev pub sign_length : List ℕ → ℕ
sign_length [] = 0
sign_length (b ∷ bs) = if (b == sign "+") || (b == sign "-") then 1 else 0

-- where the unit begins
abbrev pub unit_from : List ℕ → ℕ
unit_from text = unit_start text (sign_length text)

-- a value within the bound of numbers
abbrev pub within_bound : Result ℤ ReadFault → Option ℤ
within_bound (Ok value) = Some value
within_bound (Err _) = None

unfoldable pub numeral : List ℕ → Number
numeral text =
    record {
      value = within_bound (number_in (piece text 0 (unit_from text)));
      unit = piece text (unit_from text) (length text);
    }
