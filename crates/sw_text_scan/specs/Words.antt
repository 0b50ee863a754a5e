-- Numbers with their units, unicode ranges and urls (CSS Syntax).
use Rattle.std.specs.Prelude.{ℕ, ◌+◌, List, Bool, ◌&&◌, ◌||◌, ◌==◌, if◌then◌else◌}
use Rattle.sw_text_scan.specs.declared.runs.Class.{Class}
use Rattle.sw_text_scan.specs.declared.runs.Class.TheVariants as classes
use Rattle.sw_text_scan.specs.Bytes.{sign, byte, is_digit, starts_plainly, is_range_byte}
use Rattle.sw_text_scan.specs.Runs.{run_end}

-- digits behind a `.`
abbrev pub fraction_end : List ℕ → ℕ → ℕ
fraction_end bs d =
    if (byte bs d == sign ".") && is_digit (byte bs (d + 1)) then run_end classes.Digit bs (d + 1) else d

abbrev pub is_exponent : ℕ → Bool
is_exponent b = (b == sign "e") || (b == sign "E")

abbrev pub is_plus_or_minus : ℕ → Bool
is_plus_or_minus b = (b == sign "+") || (b == sign "-")

abbrev pub exponent_end : List ℕ → ℕ → ℕ
exponent_end bs e =
    if is_exponent (byte bs e) && is_digit (byte bs (e + 1)) then run_end classes.Digit bs (e + 1)
    else (if is_exponent (byte bs e) && (is_plus_or_minus (byte bs (e + 1)) && is_digit (byte bs (e + 2)))
    then run_end classes.Digit bs (e + 2)
    else e)

abbrev pub unit_end : List ℕ → ℕ → ℕ
unit_end bs u =
    if byte bs u == sign "%" then u + 1 else (if starts_plainly (byte bs u) then run_end classes.Unit bs u else u)

abbrev pub begins_number : List ℕ → ℕ → Bool
begins_number bs at = is_digit (byte bs at) || ((byte bs at == sign ".") && is_digit (byte bs (at + 1)))

-- where the unit of a number begins
abbrev pub unit_start : List ℕ → ℕ → ℕ
unit_start bs at = exponent_end bs (fraction_end bs (run_end classes.Digit bs at))

abbrev pub is_u : ℕ → Bool
is_u b = (b == sign "u") || (b == sign "U")

abbrev pub is_r : ℕ → Bool
is_r b = (b == sign "r") || (b == sign "R")

abbrev pub is_l : ℕ → Bool
is_l b = (b == sign "l") || (b == sign "L")

-- `u+` and what may follow it
abbrev pub begins_range : List ℕ → ℕ → Bool
begins_range bs at = is_u (byte bs at) && ((byte bs (at + 1) == sign "+") && is_range_byte (byte bs (at + 2)))

-- `url(` in any case
abbrev pub begins_url : List ℕ → ℕ → Bool
begins_url bs at =
    is_u (byte bs at) && (is_r (byte bs (at + 1)) && (is_l (byte bs (at + 2)) && (byte bs (at + 3) == sign "(")))

-- behind the first characters in a `url(`, of a class
unfoldable pub url_text_end : List ℕ → Class → ℕ → ℕ
url_text_end bs class at = run_end class bs (run_end classes.White bs (at + 4))

-- where the `)` of a `url(` stands, if what is between is no expression and has no `#{`
abbrev pub url_close : List ℕ → Class → ℕ → ℕ
url_close bs class at = run_end classes.White bs (url_text_end bs class at)
