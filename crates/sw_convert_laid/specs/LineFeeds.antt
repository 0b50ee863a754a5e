-- Tokens that stand before a space stand before a line feed too, behind which a line ends.
use Rattle.std.specs.Prelude.{◌≡◌, ◌<◌, ℕ, Bool, true, false, not, ◌||◌, ◌==◌, List, [], ◌∷◌, ◌++◌, length, Some, codes}
use Rattle.sw_text_scan.specs.declared.signs.TheConstants.{CARRIAGE_RETURN}
use Rattle.sw_text_scan.specs.Bytes.{sign}
use Rattle.sw_text_scan.specs.Words.{begins_url}
use Rattle.sw_tokens.specs.declared.pieces.Before.{Before}
use Rattle.sw_tokens.specs.declared.skips.Inside.{Inside}
use Rattle.sw_tokens.specs.declared.token.TokenKind.{TokenKind}
use Rattle.sw_tokens.specs.declared.token.TokenKind.TheVariants as kinds
use Rattle.sw_tokens.specs.Tokens.{before_of}
use Rattle.sw_convert_spelling.specs.Spelt.{Spelt, text_of, behind_gap, innermost, opened, is_gap, IsToken}

-- what goes on over the end of a line: the sign of an escape, and half of the end of a line
abbrev pub joins_line : ℕ → Bool
joins_line b = (b == sign "\\") || (b == CARRIAGE_RETURN)

-- the last byte doesn't
abbrev pub ends_plainly : List ℕ → Bool
ends_plainly [] = true
ends_plainly (b ∷ []) = not (joins_line b)
ends_plainly (b ∷ c ∷ bytes) = ends_plainly (c ∷ bytes)

-- each is a token before those behind it and this text, where this is open behind all of them
abbrev pub StandBefore : List Inside → Before → List Spelt → List Inside → List ℕ → Type 0
StandBefore stack before [] end after = stack ≡ end
StandBefore stack before (spelt ∷ list) end after =
    (is_gap (innermost stack) spelt.gap spelt.bytes ≡ true)
    × (0 < length spelt.bytes)
    × IsToken (innermost stack) (behind_gap before spelt.gap) spelt (text_of list ++ after)
    × StandBefore (opened stack spelt.change) (before_of (Some spelt.kind)) list end after

abbrev pub is_url : TokenKind → Bool
is_url kinds.Url = true
is_url _ = false

-- no `url(` stands among them but in a url without `#{}`
abbrev pub HasNoCall : List Spelt → Type 0
HasNoCall [] = Unit {0}
HasNoCall (spelt ∷ list) =
    ((is_url spelt.kind || not (begins_url (spelt.bytes ++ text_of list) 0)) ≡ true) × HasNoCall list

abbrev pub StandBeforeLineFeed : List Spelt → List ℕ → Type 0
StandBeforeLineFeed list after =
    (before : Before) → ends_plainly (text_of list) ≡ true → HasNoCall list
    → StandBefore [] before list [] (codes " " ++ after) → StandBefore [] before list [] (codes "\n" ++ after)
