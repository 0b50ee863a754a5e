-- Escapes, names, strings, urls and other runs of characters. Names and escapes are those of CSS Syntax.
use Rattle.std.specs.Prelude.{ℕ, zero, suc, ◌+◌, ◌-◌, List, length, Bool, not, ◌&&◌, ◌||◌, ◌==◌, nat_lt, if◌then◌else◌}
use Rattle.sw_text_scan.specs.declared.runs.Class.{Class}
use Rattle.sw_text_scan.specs.declared.runs.Class.TheVariants as classes
use Rattle.sw_text_scan.specs.declared.runs.TheConstants.{MOST_HEX_DIGITS}
use Rattle.sw_text_scan.specs.declared.signs.TheConstants.{END, TAB, LINE_FEED, CARRIAGE_RETURN, SPACE}
use Rattle.sw_text_scan.specs.Bytes.{sign, byte, is_break, is_white, is_digit, is_letter, is_hex_digit, starts_plainly, is_name_byte, is_url_byte, is_range_byte, opens_at, ends_loud}

-- behind the hexadecimal digits from i on, of which n at most are taken
abbrev pub hex_from : List ℕ → ℕ → ℕ → ℕ
hex_from bs zero i = i
hex_from bs (suc n) i = if is_hex_digit (byte bs i) then hex_from bs n (i + 1) else i

unfoldable pub hex_end : List ℕ → ℕ → ℕ
hex_end bs i = hex_from bs MOST_HEX_DIGITS i

-- behind one white space, if one stands there
abbrev pub white_end : List ℕ → ℕ → ℕ
white_end bs i =
    if (byte bs i == CARRIAGE_RETURN) && (byte bs (i + 1) == LINE_FEED) then i + 2
    else (if is_white (byte bs i) then i + 1 else i)

-- behind the escape that begins at i; i itself where none does
unfoldable pub escape_end : List ℕ → ℕ → ℕ
escape_end bs i =
    if not (byte bs i == sign "\\") then i
    else (if is_hex_digit (byte bs (i + 1)) then white_end bs (hex_end bs (i + 1))
    else (if is_break (byte bs (i + 1)) || (byte bs (i + 1) == END) then i
    else i + 2))

-- behind what a string holds at i, up to its quote q, a line break or the end of the text; a line break may be escaped
-- there too
unfoldable pub text_next : List ℕ → ℕ → ℕ → ℕ
text_next bs q i =
    if (byte bs i == q) || (is_break (byte bs i) || (byte bs i == END)) then i
    else (if not (byte bs i == sign "\\") then i + 1
    else (if is_break (byte bs (i + 1)) then white_end bs (i + 1)
    else (if byte bs (i + 1) == END then i + 1
    else escape_end bs i)))

-- an ASCII letter, a digit or `-`
abbrev pub is_word_byte : ℕ → Bool
is_word_byte b = is_letter b || (is_digit b || (b == sign "-"))

-- a unit goes on with a letter, `_`, a character from U+0080 on or a digit, and with a `-` before what a unit may
-- begin with
abbrev pub goes_in_unit : List ℕ → ℕ → Bool
goes_in_unit bs i =
    starts_plainly (byte bs i)
    || (is_digit (byte bs i) || ((byte bs i == sign "-") && starts_plainly (byte bs (i + 1))))

-- the character of a url at i, in `#{}` but a `}`
abbrev pub goes_in_url : List ℕ → ℕ → Bool
goes_in_url bs i = is_url_byte (byte bs i) && not (opens_at bs i)

abbrev pub goes_in_inner_url : List ℕ → ℕ → Bool
goes_in_inner_url bs i = (is_url_byte (byte bs i) && not (byte bs i == sign "}")) && not (opens_at bs i)

-- behind what a class takes at i; i itself where it takes nothing
abbrev pub next : Class → List ℕ → ℕ → ℕ
next classes.White bs i = if is_white (byte bs i) then i + 1 else i
next classes.Commas bs i = if is_white (byte bs i) || (byte bs i == sign ",") then i + 1 else i
next classes.Digit bs i = if is_digit (byte bs i) then i + 1 else i
next classes.HexDigit bs i = if is_hex_digit (byte bs i) then i + 1 else i
next classes.Word bs i = if is_word_byte (byte bs i) then i + 1 else i
next classes.Name bs i = if is_name_byte (byte bs i) then i + 1 else escape_end bs i
next classes.Unit bs i = if goes_in_unit bs i then i + 1 else escape_end bs i
next (classes.Text q) bs i = text_next bs q i
next (classes.SheetText q) bs i = if opens_at bs i then i else text_next bs q i
next classes.Url bs i = if goes_in_url bs i then i + 1 else escape_end bs i
next classes.UrlInside bs i = if goes_in_inner_url bs i then i + 1 else escape_end bs i
next classes.Range bs i = if is_range_byte (byte bs i) then i + 1 else i
next classes.Plain bs i = if (byte bs i == sign "\\") || (byte bs i == END) then i else i + 1
next classes.Line bs i = if is_break (byte bs i) || (byte bs i == END) then i else i + 1
next classes.Comment bs i = if ends_loud bs i || (opens_at bs i || (byte bs i == END)) then i else i + 1
next classes.CssUrl bs i = if is_url_byte (byte bs i) then i + 1 else escape_end bs i
next classes.CssComment bs i = if ends_loud bs i || (byte bs i == END) then i else i + 1
next classes.CommentLine bs i =
    if is_break (byte bs i) then i else (if ends_loud bs i || (opens_at bs i || (byte bs i == END)) then i else i + 1)
next classes.Blank bs i = if (byte bs i == SPACE) || (byte bs i == TAB) then i + 1 else i
next classes.Space bs i = if byte bs i == SPACE then i + 1 else i
next classes.Tab bs i = if byte bs i == TAB then i + 1 else i

-- behind the run from i on, of n steps at most
abbrev pub run_from : Class → List ℕ → ℕ → ℕ → ℕ
run_from c bs zero i = i
run_from c bs (suc n) i = if nat_lt i (next c bs i) then run_from c bs n (next c bs i) else i

-- behind the longest run from i on: each step takes at least one byte
unfoldable pub run_end : Class → List ℕ → ℕ → ℕ
run_end c bs i = run_from c bs (length bs - i) i

-- a name character that is neither a digit nor `-` stands at i
abbrev pub starts_at : List ℕ → ℕ → Bool
starts_at bs i = starts_plainly (byte bs i) || nat_lt i (escape_end bs i)

-- a name begins at i
unfoldable pub begins_name : List ℕ → ℕ → Bool
begins_name bs i =
    starts_at bs i || ((byte bs i == sign "-") && (starts_at bs (i + 1) || (byte bs (i + 1) == sign "-")))
