-- Names as they are kept. A hexadecimal escape takes one white space behind it (CSS Syntax, "Consume an escaped code
-- point"). Where a name ends in one without it, a space is added, so that nothing that is written behind the name joins
-- it.
use Rattle.std.specs.Prelude.{◌≡◌, ℕ, zero, suc, ◌+◌, ◌-◌, List, ◌++◌, length, Bool, true, false, not, ◌&&◌, ◌||◌, ◌==◌, nat_lt, codes, if◌then◌else◌}
use Rattle.sw_text_scan.specs.declared.runs.Class.TheVariants as classes
use Rattle.sw_text_scan.specs.declared.signs.TheConstants.{LINE_FEED}
use Rattle.sw_text_scan.specs.Bytes.{sign, byte, is_hex_digit, is_name_byte}
use Rattle.sw_text_scan.specs.Runs.{escape_end, next, run_end, begins_name}
use Rattle.sw_text_scan.specs.Pieces.{is_cut, piece}

-- behind white space
abbrev pub white : List ℕ → ℕ → ℕ
white bs i = run_end classes.White bs i

-- behind a name
abbrev pub name_end : List ℕ → ℕ → ℕ
name_end bs i = run_end classes.Name bs i

-- the name character at i is a hexadecimal escape that no white space closes: its last byte is a digit
unfoldable pub is_unclosed : List ℕ → ℕ → Bool
is_unclosed bs i = (byte bs i == sign "\\") && is_hex_digit (byte bs (escape_end bs i - 1))

-- the same of the last of the n name characters at most from i on, and what is known of the one before where none
-- stands there
abbrev pub unclosed_from : List ℕ → ℕ → Bool → ℕ → Bool
unclosed_from bs zero before i = before
unclosed_from bs (suc n) before i =
    if nat_lt i (next classes.Name bs i) then unclosed_from bs n (is_unclosed bs i) (next classes.Name bs i) else before

-- the name characters from i on end in such an escape
unfoldable pub ends_unclosed : List ℕ → ℕ → Bool
ends_unclosed bs i = unclosed_from bs (length bs - i) false i

-- what stands from i up to the end j of the name that begins at k, with what closes it
unfoldable pub name_text : List ℕ → ℕ → ℕ → ℕ → List ℕ
name_text bs i k j = if ends_unclosed bs k then piece bs i j ++ codes " " else piece bs i j

-- what goes on no name: no name character, no `\` and no line feed
abbrev pub parts_names : ℕ → Bool
parts_names b = not (is_name_byte b || ((b == sign "\\") || (b == LINE_FEED)))

-- the name that begins at a place, as it's kept
abbrev pub kept_name : List ℕ → ℕ → List ℕ
kept_name text i = name_text text i i (name_end text i)

-- a name that is kept is a name, and no more than it, wherever it's written before what goes on no name
abbrev pub KeepsName : List ℕ → ℕ → Type 0
KeepsName text i =
    begins_name text i ≡ true → is_cut text i ≡ true → (before after : List ℕ) → parts_names (byte after 0) ≡ true
    → (begins_name (before ++ (kept_name text i ++ after)) (length before) ≡ true)
    × (name_end (before ++ (kept_name text i ++ after)) (length before) ≡ length before + length (kept_name text i))
