-- Names of members and numbers as they are written.
use Rattle.std.specs.Prelude.{ℕ, Bool, true, ◌&&◌, ◌==◌, if◌then◌else◌, List, [], ◌∷◌, ◌++◌, codes}
use Rattle.sw_text.specs.Names.{hyphen, underscore}
use Rattle.sw_text_scan.specs.Bytes.{is_digit}
use Rattle.sw_tree.specs.declared.expr.Number.{Number}
use Rattle.sw_convert_spelling.specs.Numerals.{numeral_text}

-- what begins no name behind a `-`
abbrev pub begins_no_name : List ℕ → Bool
begins_no_name [] = true
begins_no_name (b ∷ rest) = is_digit b

-- a name that is kept with `-` for each `_`: where it is none, its first `-` was a `_`
abbrev pub name_text : List ℕ → List ℕ
name_text [] = []
name_text (b ∷ rest) = (if (b == hyphen) && begins_no_name rest then underscore else b) ∷ rest

-- the name of a variable
abbrev pub dollar_name : List ℕ → List ℕ
dollar_name name = codes "$" ++ name_text name

-- a number with its unit
abbrev pub number_text : Number → List ℕ
number_text number = numeral_text number.value number.unit
