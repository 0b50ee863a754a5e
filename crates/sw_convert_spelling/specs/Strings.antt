-- Strings as a sheet is written with them: in `"`, with the escapes of CSS Object Model, "Serialize a string"; where that
-- leaves a choice, and for `#{`, this project's own rule.
use Rattle.std.specs.Prelude.{◌≡◌, ◌<◌, ℕ, length, ◌/◌, ◌%◌, List, [], ◌∷◌, ◌++◌, Bool, true, false, not, ◌&&◌, ◌||◌, ◌==◌, nat_lt, if◌then◌else◌, codes}
use Rattle.std.specs.Char.{digit_char}
use Rattle.std.specs.List.{list_all}
use Rattle.sw_text_scan.specs.Bytes.{sign, byte, opens_at, is_hex_digit}
use Rattle.sw_text_scan.specs.declared.signs.TheConstants.{END, TAB, SPACE}
use Rattle.sw_tokens.specs.declared.pieces.Before.{Before}
use Rattle.sw_tokens.specs.declared.pieces.Change.TheVariants as changes
use Rattle.sw_tokens.specs.declared.skips.Inside.{Inside}
use Rattle.sw_tokens.specs.declared.skips.Inside.TheVariants as insides
use Rattle.sw_tokens.specs.declared.token.TokenKind.TheVariants as kinds
use Rattle.sw_tokens.specs.Decoded.{decoded}
use Rattle.sw_tokens.specs.Pieces.{made, piece}
use Rattle.sw_convert_spelling.specs.Spelt.{is_sheet_code}

abbrev delete : ℕ
delete = 127

-- control characters other than tab, and U+0000, for which no escape stands
abbrev pub is_coded : ℕ → Bool
is_coded b = (nat_lt 0 b && (nat_lt b SPACE && not (b == TAB))) || (b == delete)

-- the lower hexadecimal digits of a number below 256
abbrev pub hex_of : ℕ → List ℕ
hex_of b = if nat_lt b 16 then digit_char b ∷ [] else digit_char (b / 16) ∷ digit_char (b % 16) ∷ []

-- what would be read as part of the hexadecimal escape before it
abbrev pub joins_escape : List ℕ → Bool
joins_escape [] = false
joins_escape (b ∷ rest) = is_hex_digit b || ((b == SPACE) || (b == TAB))

-- the space that ends an escape
abbrev pub escape_close : Bool → List ℕ
escape_close true = codes " "
escape_close false = []

abbrev pub begins_brace : List ℕ → Bool
begins_brace [] = false
begins_brace (b ∷ rest) = b == sign "{"

-- the quote, `\`, and the `#` of a `#{`
abbrev pub is_escaped : ℕ → List ℕ → Bool
is_escaped b rest = (b == sign "\"") || ((b == sign "\\") || ((b == sign "#") && begins_brace rest))

-- what is written of one byte before others
abbrev pub escape : ℕ → List ℕ → List ℕ
escape b rest =
    if is_coded b then sign "\\" ∷ (hex_of b ++ escape_close (joins_escape rest))
    else (if is_escaped b rest then sign "\\" ∷ b ∷ [] else b ∷ [])

-- a text as it stands between the quotes
abbrev pub escaped : List ℕ → List ℕ
escaped [] = []
escaped (b ∷ rest) = escape b rest ++ escaped rest

-- the string
abbrev pub string_text : List ℕ → List ℕ
string_text text = sign "\"" ∷ (escaped text ++ codes "\"")

abbrev pub are_bytes : List ℕ → Bool
are_bytes text = list_all (λ b. nat_lt b END) text

-- what is written of a text stands for it
abbrev pub StandsFor : List ℕ → Type 0
StandsFor text = are_bytes text ≡ true → decoded (escaped text) ≡ text

-- ---- as tokens

-- a string is one token, whatever stands behind it
abbrev pub IsStringToken : List ℕ → Inside → Before → List ℕ → Type 0
IsStringToken text inside before after =
    are_bytes text ≡ true → is_sheet_code inside ≡ true
    → piece (string_text text ++ after) inside before 0
    ≡ made (kinds.Quoted text) (length (string_text text)) changes.Keep

-- the quote opens a string with `#{}` where text and `#{` stand behind it
abbrev pub IsTemplateToken : List ℕ → Inside → Before → List ℕ → Type 0
IsTemplateToken text inside before after =
    are_bytes text ≡ true → is_sheet_code inside ≡ true → opens_at after 0 ≡ true
    → piece (codes "\"" ++ (escaped text ++ after)) inside before 0
    ≡ made kinds.Template 1 (changes.Push (insides.Quotes (sign "\"")))

-- in such a string, text before `#{` or the closing quote is one token
abbrev pub IsTextToken : List ℕ → Before → List ℕ → Type 0
IsTextToken text before after =
    are_bytes text ≡ true → 0 < length text → (opens_at after 0 || (byte after 0 == sign "\"")) ≡ true
    → piece (escaped text ++ after) (insides.Quotes (sign "\"")) before 0
    ≡ made (kinds.Text text) (length (escaped text)) changes.Keep

-- in such a string `#{` and the closing quote are one token each, whatever stands behind them
abbrev pub IsInsertToken : Before → List ℕ → Type 0
IsInsertToken before after =
    piece (codes "#{" ++ after) (insides.Quotes (sign "\"")) before 0
    ≡ made kinds.OpenInterpolation 2 (changes.Push insides.Interpolation)

abbrev pub IsEndToken : Before → List ℕ → Type 0
IsEndToken before after =
    piece (codes "\"" ++ after) (insides.Quotes (sign "\"")) before 0 ≡ made kinds.TemplateEnd 1 changes.Pop
