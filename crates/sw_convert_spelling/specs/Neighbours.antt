-- What may stand behind a token of code, so that it stays the token that it is.
use Rattle.std.specs.Prelude.{◌≡◌, ◌<◌, ℕ, ◌-◌, List, [], ◌∷◌, ◌++◌, length, Bool, true, false, not, ◌&&◌, ◌||◌, ◌==◌, nat_lt}
use Rattle.sw_text_scan.specs.declared.runs.Class.TheVariants as classes
use Rattle.sw_text_scan.specs.declared.signs.TheConstants.{END, CARRIAGE_RETURN, LINE_FEED}
use Rattle.sw_text_scan.specs.Bytes.{sign, byte, is_break, is_digit, is_white}
use Rattle.sw_text_scan.specs.Runs.{next, starts_at, begins_name}
use Rattle.sw_text_scan.specs.Words.{begins_range, begins_url}
use Rattle.sw_text_locality.specs.Names.{ends_unclosed}
use Rattle.sw_tokens.specs.declared.pieces.Before.{Before}
use Rattle.sw_tokens.specs.declared.skips.Inside.{Inside}
use Rattle.sw_tokens.specs.declared.token.TokenKind.{TokenKind}
use Rattle.sw_tokens.specs.declared.token.TokenKind.TheVariants as kinds
use Rattle.sw_tokens.specs.Pieces.{is_hex_form, after_dollar, after_hash}
use Rattle.sw_convert_spelling.specs.Spelt.{Spelt, is_sheet_code, IsToken}

-- a sign with which what stands behind it is one token, or begins one
abbrev pub joins_sign : ℕ → List ℕ → Bool
joins_sign b after =
    ((b == sign "#") && (byte after 0 == sign "{"))
    || (((b == sign "/") && ((byte after 0 == sign "/") || (byte after 0 == sign "*")))
    || (((b == sign ".") && (is_digit (byte after 0) || ((byte after 0 == sign ".") && (byte after 1 == sign "."))))
    || ((((b == sign "=") || ((b == sign "!") || ((b == sign "<") || (b == sign ">")))) && (byte after 0 == sign "="))
    || (((b == sign "-") && (starts_at after 0 || (byte after 0 == sign "-")))
    || (((b == sign "@") && begins_name after 0)
    || ((b == sign "\\") && not (is_break (byte after 0) || (byte after 0 == END))))))))

abbrev pub parts_sign : List ℕ → List ℕ → Bool
parts_sign (b ∷ []) after = not (joins_sign b after)
parts_sign bytes after = true

-- what goes on no name that begins at a place of these bytes and ends with them: no name character, no white space that
-- an escape at its end would take, and no line feed behind a carriage return
abbrev pub parts_name : ℕ → List ℕ → List ℕ → Bool
parts_name start bytes after =
    not (nat_lt 0 (next classes.Name after 0))
    && (not (ends_unclosed bytes start && is_white (byte after 0))
    && not ((byte bytes (length bytes - 1) == CARRIAGE_RETURN) && (byte after 0 == LINE_FEED)))

-- what stands behind a token goes on with none
abbrev pub parts_kind : TokenKind → List ℕ → List ℕ → Bool
parts_kind kinds.Word bytes after = parts_name 0 bytes after
parts_kind kinds.Name bytes after = parts_name 0 bytes after
parts_kind kinds.DashedName bytes after = parts_name 0 bytes after
parts_kind kinds.AtName bytes after = parts_name 1 bytes after
parts_kind _ bytes after = true

-- the tokens that this speaks of: names, signs, strings, comments and `#{}`, and not numbers, ranges, urls and what
-- opens a string, a comment or a url with `#{}`
abbrev pub is_parted : TokenKind → Bool
is_parted kinds.Digits = false
is_parted kinds.Number = false
is_parted kinds.Hex = false
is_parted kinds.UnicodeRange = false
is_parted kinds.Url = false
is_parted kinds.UrlTemplate = false
is_parted kinds.Template = false
is_parted kinds.CommentTemplate = false
is_parted _ = true

-- with what stands behind them, the bytes are no hexadecimal form directly behind a `#`, no unicode range and no url
abbrev pub begins_other : Before → List ℕ → Bool
begins_other before text =
    (after_hash before && is_hex_form text 0)
    || ((not (after_dollar before) && begins_range text 0) || begins_url text 0)

abbrev pub may_stand_behind : Before → TokenKind → List ℕ → List ℕ → Bool
may_stand_behind before kind bytes after =
    is_parted kind
    && (parts_sign bytes after && (parts_kind kind bytes after && not (begins_other before (bytes ++ after))))

-- a token by itself is the same token before what may stand behind it
abbrev pub StaysToken : Inside → Before → Spelt → List ℕ → Type 0
StaysToken inside before spelt after =
    is_sheet_code inside ≡ true → 0 < length spelt.bytes → IsToken inside before spelt []
    → may_stand_behind before spelt.kind spelt.bytes after ≡ true → IsToken inside before spelt after

-- a token before others is the same token by itself
abbrev pub StandsAlone : Inside → Before → Spelt → List ℕ → Type 0
StandsAlone inside before spelt after =
    is_sheet_code inside ≡ true → 0 < length spelt.bytes → is_parted spelt.kind ≡ true
    → begins_other before spelt.bytes ≡ false → IsToken inside before spelt after → IsToken inside before spelt []
