-- The bytes of a text, and the characters that matter to names, white space, strings and urls (CSS Syntax).
use Prim.Native.String.{String}
use Rattle.std.specs.Prelude.{ℕ, ◌+◌, List, [], ◌∷◌, Option, Some, None, slice_get, Bool, not, ◌&&◌, ◌||◌, ◌==◌, nat_lt, nat_le, codes}
use Rattle.sw_text_scan.specs.declared.signs.TheConstants.{END, TAB, LINE_FEED, FORM_FEED, CARRIAGE_RETURN, FIRST_WIDE, FIRST_LEAD}

abbrev first : List ℕ → ℕ
first [] = END
first (b ∷ bs) = b

-- the byte of a sign
abbrev pub sign : String → ℕ
sign s = first (codes s)

abbrev pub byte_in : Option ℕ → ℕ
byte_in None = END
byte_in (Some b) = b

-- the byte at i, or the number of the end
unfoldable pub byte : List ℕ → ℕ → ℕ
byte bs i = byte_in (slice_get bs i)

abbrev pub is_break : ℕ → Bool
is_break b = (b == LINE_FEED) || ((b == CARRIAGE_RETURN) || (b == FORM_FEED))

abbrev pub is_white : ℕ → Bool
is_white b = (b == sign " ") || ((b == TAB) || is_break b)

abbrev pub is_digit : ℕ → Bool
is_digit b = nat_le (sign "0") b && nat_le b (sign "9")

abbrev pub is_letter : ℕ → Bool
is_letter b = (nat_le (sign "A") b && nat_le b (sign "Z")) || (nat_le (sign "a") b && nat_le b (sign "z"))

abbrev pub is_hex_digit : ℕ → Bool
is_hex_digit b =
    is_digit b || ((nat_le (sign "A") b && nat_le b (sign "F")) || (nat_le (sign "a") b && nat_le b (sign "f")))

-- a byte of a character from U+0080 on
abbrev pub is_wide : ℕ → Bool
is_wide b = nat_le FIRST_WIDE b && nat_lt b END

-- what a unit may begin with
abbrev pub starts_plainly : ℕ → Bool
starts_plainly b = is_letter b || ((b == sign "_") || is_wide b)

-- a name character that is no escape
abbrev pub is_name_byte : ℕ → Bool
is_name_byte b = starts_plainly b || (is_digit b || (b == sign "-"))

-- a quote
abbrev pub is_quote : ℕ → Bool
is_quote b = (b == sign "\"") || (b == sign "'")

-- `*` to `~` but the `\`
abbrev pub is_late_sign : ℕ → Bool
is_late_sign b = nat_le (sign "*") b && (nat_le b (sign "~") && not (b == sign "\\"))

-- what may stand in a `url(..)` that isn't quoted; `#{` and escapes apart
abbrev pub is_url_byte : ℕ → Bool
is_url_byte b =
    (b == sign "!") || ((b == sign "#") || ((b == sign "%") || ((b == sign "&") || (is_late_sign b || is_wide b))))

-- what may follow `u+`
abbrev pub is_range_byte : ℕ → Bool
is_range_byte b = is_hex_digit b || ((b == sign "?") || (b == sign "-"))

-- a byte that goes on with a character
abbrev pub continues : ℕ → Bool
continues b = nat_le FIRST_WIDE b && nat_lt b FIRST_LEAD

-- `#{`
abbrev pub opens_at : List ℕ → ℕ → Bool
opens_at bs i = (byte bs i == sign "#") && (byte bs (i + 1) == sign "{")

-- `//`
abbrev pub begins_silent : List ℕ → ℕ → Bool
begins_silent bs i = (byte bs i == sign "/") && (byte bs (i + 1) == sign "/")

-- `/*`
abbrev pub begins_loud : List ℕ → ℕ → Bool
begins_loud bs i = (byte bs i == sign "/") && (byte bs (i + 1) == sign "*")

-- `*/`
abbrev pub ends_loud : List ℕ → ℕ → Bool
ends_loud bs i = (byte bs i == sign "*") && (byte bs (i + 1) == sign "/")
