-- When tokens that stand before a space are a line: a test of their kinds and of the white space between them.
use Rattle.std.specs.Prelude.{◌≡◌, ℕ, Bool, true, false, not, ◌&&◌, ◌||◌, List, [], ◌∷◌, ◌++◌, Some, codes, bytes_eq}
use Rattle.std.specs.List.{list_all}
use Rattle.sw_tokens.specs.declared.pieces.Before.{Before}
use Rattle.sw_tokens.specs.declared.pieces.Before.TheVariants as befores
use Rattle.sw_tokens.specs.declared.pieces.Change.{Change}
use Rattle.sw_tokens.specs.declared.pieces.Change.TheVariants as changes
use Rattle.sw_tokens.specs.declared.skips.Inside.{Inside}
use Rattle.sw_tokens.specs.declared.token.TokenKind.{TokenKind}
use Rattle.sw_tokens.specs.declared.token.TokenKind.TheVariants as kinds
use Rattle.sw_tokens.specs.Tokens.{before_of, is_spaced}
use Rattle.sw_parse_layout.specs.declared.sorts.Sort.{Sort}
use Rattle.sw_parse_layout.specs.declared.sorts.Sort.TheVariants as sorts
use Rattle.sw_parse_layout.specs.declared.state.Bracket.{Bracket}
use Rattle.sw_parse_layout.specs.Lines.{is_blank}
use Rattle.sw_parse_layout.specs.Pieces.{is_refused_sign}
use Rattle.sw_parse_layout.specs.Steps.{is_comma}
use Rattle.sw_convert_spelling.specs.Spelt.{Spelt, text_of, behind_gap}
use Rattle.sw_convert_laid.specs.Heads.{Told, untold, is_comment, opens_comment, told_with}
use Rattle.sw_convert_laid.specs.LineFeeds.{ends_plainly, HasNoCall, StandBefore}
use Rattle.sw_convert_laid.specs.Rows.{Row, IsRow}

-- `=` and `+` as the names of members
abbrev pub names_member : Sort → TokenKind → Bool
names_member sorts.Fresh kinds.Equals = true
names_member sorts.Fresh kinds.Plus = true
names_member _ _ = false

abbrev pub is_keep : Change → Bool
is_keep changes.Keep = true
is_keep _ = false

abbrev pub has_none : {A : Type 0} → List A → Bool
has_none [] = true
has_none (x ∷ xs) = false

-- a comment is an empty one
abbrev pub is_empty_comment : Spelt → Bool
is_empty_comment spelt = bytes_eq spelt.bytes (codes "/**/") && is_keep spelt.change

-- a line holds this token outside strings, urls and `#{}`
abbrev pub is_held : List Bracket → Sort → Spelt → Bool
is_held brackets sort spelt =
    list_all is_blank spelt.gap
    && (not (is_refused_sign brackets (Some spelt.kind))
    && (not (names_member sort spelt.kind)
    && (not (opens_comment spelt.kind) && (not (is_comment spelt.kind) || is_empty_comment spelt))))

abbrev pub is_held_in : List Inside → List Bracket → Sort → Spelt → Bool
is_held_in [] brackets sort spelt = is_held brackets sort spelt
is_held_in (inside ∷ outer) brackets sort spelt = true

-- a line holds these tokens, and ends behind them
abbrev pub are_held : Told → Before → List Spelt → Bool
are_held told before [] = has_none told.brackets && (not (is_comma told.sort) && not (is_spaced before))
are_held told before (spelt ∷ list) =
    is_held_in told.stack told.brackets told.sort spelt
    && are_held (told_with told (is_spaced (behind_gap before spelt.gap)) spelt) (before_of (Some spelt.kind)) list

abbrev pub is_line : List Spelt → Bool
is_line [] = false
is_line (spelt ∷ list) =
    has_none spelt.gap && (not (is_comment spelt.kind) && are_held untold befores.White (spelt ∷ list))

-- tokens that stand before a space are a line, which this test tells
abbrev pub AreLine : Row → List ℕ → Type 0
AreLine row rest =
    is_line row.list ≡ true → ends_plainly (text_of row.list) ≡ true → HasNoCall row.list
    → StandBefore [] befores.White row.list [] (codes " " ++ rest) → IsRow row rest
