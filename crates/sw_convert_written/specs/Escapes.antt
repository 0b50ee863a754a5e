-- Escapes that are open at the end of a text (CSS Syntax, "Consume an escaped code point"): a hexadecimal escape takes one
-- white space behind it. Where a space of the layout would be taken, an empty comment stands before it. A `\` alone takes
-- any character but a line break, so a line break stands behind it.
use Rattle.std.specs.Prelude.{ℕ, ◌+◌, Bool, true, false, ◌&&◌, ◌==◌, nat_lt, if◌then◌else◌, List, [], ◌∷◌, ◌++◌, Option, Some, None, codes}
use Rattle.sw_text_scan.specs.Bytes.{sign, is_hex_digit}
use Rattle.sw_text_scan.specs.declared.runs.TheConstants.{MOST_HEX_DIGITS}

-- how many hexadecimal digits stand in the escape that a byte begins
abbrev pub begun : ℕ → Option ℕ
begun b = if b == sign "\\" then Some 0 else None

-- the same of the escape that is open behind a byte
abbrev pub behind : Option ℕ → ℕ → Option ℕ
behind None b = begun b
behind (Some digits) b =
    if is_hex_digit b && nat_lt digits MOST_HEX_DIGITS then Some (digits + 1)
    else (if digits == 0 then None else begun b)

abbrev pub behind_text : Option ℕ → List ℕ → Option ℕ
behind_text escape [] = escape
behind_text escape (b ∷ bytes) = behind_text (behind escape b) bytes

abbrev pub takes_white : Option ℕ → Bool
takes_white None = false
takes_white (Some digits) = nat_lt 0 digits

-- a white space behind the text would belong to it
unfoldable pub ends_unclosed : List ℕ → Bool
ends_unclosed text = takes_white (behind_text None text)

-- a `\` would escape what stands behind the text
abbrev pub takes_any : Option ℕ → Bool
takes_any None = false
takes_any (Some digits) = digits == 0

unfoldable pub ends_open : List ℕ → Bool
ends_open text = takes_any (behind_text None text)

abbrev pub break_by : Bool → List ℕ
break_by true = codes "\n"
break_by false = []

-- the line break that keeps a `\` at its end by itself
abbrev pub break_behind : List ℕ → List ℕ
break_behind text = break_by (ends_open text)

-- an empty comment
abbrev pub apart : List ℕ
apart = codes "/**/"

-- the space behind a text
abbrev pub space_behind : List ℕ → List ℕ
space_behind text = if ends_unclosed text then apart ++ codes " " else codes " "
