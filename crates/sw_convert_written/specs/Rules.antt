-- The text before the block of a rule. Where a comment was dropped next to a `#{}` in its first word, it would begin as a
-- declaration, a custom property or an at-rule; there an empty comment stands behind its first piece.
use Rattle.std.specs.Prelude.{ℕ, Bool, true, false, not, ◌&&◌, ◌||◌, ◌==◌, if◌then◌else◌, List, [], ◌∷◌, ◌++◌}
use Rattle.sw_text_scan.specs.Bytes.{sign, is_white, is_hex_digit, is_name_byte, starts_plainly}
use Rattle.sw_convert_written.specs.declared.manner.Manner.TheVariants as manners
use Rattle.sw_convert_written.specs.declared.rules.Place.{Place}
use Rattle.sw_convert_written.specs.declared.rules.Place.TheVariants as places
use Rattle.sw_convert_written.specs.Escapes.{apart}
use Rattle.sw_convert_written.specs.Pieces.{Written, Said, piece_text, pieces_text}

abbrev pub behind_word : ℕ → Place
behind_word b =
    if is_white b then places.Space
    else (if b == sign ":" then places.Colon
    else (if is_name_byte b then places.Word else (if b == sign "\\" then places.Escape else places.Selects)))

abbrev pub behind_backslash : ℕ → Place
behind_backslash b = if is_hex_digit b then places.Digits else places.Word

-- one white space behind the digits belongs to the escape
abbrev pub behind_digits : ℕ → Place
behind_digits b = if is_white b then places.Word else (if is_hex_digit b then places.Digits else behind_word b)

abbrev pub behind_space : ℕ → Place
behind_space b = if is_white b then places.Space else (if b == sign ":" then places.Colon else places.Selects)

-- a name or a second `:` directly behind the `:` makes it a pseudo, but where the word begins with `--`
abbrev pub behind_colon : Bool → ℕ → Place
behind_colon dashed b =
    if not dashed && (starts_plainly b || (b == sign ":")) then places.Selects else places.Declares

abbrev pub step : Bool → Place → ℕ → Place
step dashed places.Word b = behind_word b
step dashed places.Escape b = behind_backslash b
step dashed places.Digits b = behind_digits b
step dashed places.Space b = behind_space b
step dashed places.Colon b = behind_colon dashed b
step dashed places.Declares b = places.Declares
step dashed places.Selects b = places.Selects

abbrev pub place_behind : Bool → Place → List ℕ → Place
place_behind dashed place [] = place
place_behind dashed place (b ∷ bytes) = place_behind dashed (step dashed place b) bytes

-- a value goes on as a letter does
abbrev pub behind_piece : Bool → Place → Written → Place
behind_piece dashed place (Said text) = place_behind dashed place text
behind_piece dashed place _ = step dashed place (sign "a")

abbrev pub behind_pieces : Bool → Place → List Written → Place
behind_pieces dashed place [] = place
behind_pieces dashed place (piece ∷ pieces) = behind_pieces dashed (behind_piece dashed place piece) pieces

abbrev pub declares : Place → Bool
declares places.Colon = true
declares places.Declares = true
declares _ = false

-- `--`
abbrev pub begins_dashes : List ℕ → Bool
begins_dashes (a ∷ b ∷ bytes) = (a == sign "-") && (b == sign "-")
begins_dashes _ = false

abbrev pub begins_dashed : Written → Bool
begins_dashed (Said text) = begins_dashes text
begins_dashed _ = false

abbrev pub is_lone_at : List ℕ → Bool
is_lone_at (b ∷ []) = b == sign "@"
is_lone_at _ = false

-- an `@` alone
abbrev pub is_at : Written → Bool
is_at (Said text) = is_lone_at text
is_at _ = false

-- a word may go on there
abbrev pub in_word : Place → Bool
in_word places.Word = true
in_word places.Digits = true
in_word _ = false

-- pieces of which the first is all of a word begin as a declaration
abbrev pub is_declared : Bool → Written → List Written → Bool
is_declared dashed first pieces =
    in_word (behind_piece dashed places.Word first) && declares (behind_pieces dashed places.Word pieces)

-- pieces with this first one would begin no rule
abbrev pub is_cut : Written → List Written → Bool
is_cut first pieces = is_at first || is_declared (begins_dashed first) first pieces

abbrev pub has_more : List Written → Bool
has_more [] = false
has_more (piece ∷ pieces) = true

abbrev pub rule_pieces : List Written → List ℕ
rule_pieces [] = []
rule_pieces (piece ∷ pieces) =
    if has_more pieces && is_cut piece (piece ∷ pieces)
    then piece_text manners.Seamed piece ++ (apart ++ pieces_text manners.Seamed pieces)
    else pieces_text manners.Seamed (piece ∷ pieces)
