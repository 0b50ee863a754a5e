-- Tokens as they are written one behind the other, each with the white space before it.
use Rattle.std.specs.Prelude.{◌≡◌, ◌<◌, ℕ, ◌+◌, List, [], ◌∷◌, ◌++◌, length, Bool, true, false, not, ◌&&◌, Some, Ok}
use Rattle.std.specs.List.{list_all}
use Rattle.sw_text.specs.Places.{mark_length}
use Rattle.sw_text_scan.specs.Bytes.{byte, is_white}
use Rattle.sw_tokens.specs.declared.pieces.Before.{Before}
use Rattle.sw_tokens.specs.declared.pieces.Before.TheVariants as befores
use Rattle.sw_tokens.specs.declared.pieces.Change.{Change}
use Rattle.sw_tokens.specs.declared.pieces.Change.TheVariants as changes
use Rattle.sw_tokens.specs.declared.skips.Inside.{Inside}
use Rattle.sw_tokens.specs.declared.skips.Inside.TheVariants as insides
use Rattle.sw_tokens.specs.declared.token.Token.{Token}
use Rattle.sw_tokens.specs.declared.token.TokenKind.{TokenKind}
use Rattle.sw_tokens.specs.Ends.{reached, tokens_of}
use Rattle.sw_tokens.specs.Pieces.{made, piece}
use Rattle.sw_tokens.specs.Tokens.{before_of, is_spaced}

-- a token that is written
pub record Spelt : Type 0 where
  -- the white space before it
  pub gap : List ℕ
  pub kind : TokenKind
  pub bytes : List ℕ
  -- what it opens or closes
  pub change : Change

-- the text of tokens
abbrev pub text_of : List Spelt → List ℕ
text_of [] = []
text_of (spelt ∷ list) = spelt.gap ++ (spelt.bytes ++ text_of list)

-- what stands directly before a token that has this white space before it
abbrev pub behind_gap : Before → List ℕ → Before
behind_gap before [] = before
behind_gap before (b ∷ gap) = befores.White

abbrev pub end_of : ℕ → Spelt → ℕ
end_of at spelt = (at + length spelt.gap) + length spelt.bytes

-- where the tokens stand from a place on
abbrev pub placed_behind : Before → ℕ → List Spelt → List Token
placed_behind before at [] = []
placed_behind before at (spelt ∷ list) =
    record {
      kind = spelt.kind;
      from = at + length spelt.gap;
      to = end_of at spelt;
      spaced = is_spaced (behind_gap before spelt.gap);
    } ∷ placed_behind (before_of (Some spelt.kind)) (end_of at spelt) list

abbrev pub placed : ℕ → List Spelt → List Token
placed at list = placed_behind befores.Other at list

-- ---- what may stand where

-- what is open innermost, of what is open, the innermost first
abbrev pub innermost : List Inside → Inside
innermost [] = insides.Sheet
innermost (inside ∷ outer) = inside

-- what is open behind a token
abbrev pub opened : List Inside → Change → List Inside
opened stack changes.Keep = stack
opened stack (changes.Push inside) = inside ∷ stack
opened [] changes.Pop = []
opened (inside ∷ outer) changes.Pop = outer

-- code of a sheet, outside strings, comments and urls
abbrev pub is_sheet_code : Inside → Bool
is_sheet_code insides.Sheet = true
is_sheet_code insides.Interpolation = true
is_sheet_code _ = false

-- white space stands between tokens of code, and in a `url(..)` with `#{}`
abbrev pub takes_gap : Inside → Bool
takes_gap insides.Url = true
takes_gap insides.UrlInside = true
takes_gap inside = is_sheet_code inside

-- no white space, or nothing but white space before what begins with none
abbrev pub is_gap : Inside → List ℕ → List ℕ → Bool
is_gap inside [] bytes = true
is_gap inside (b ∷ gap) bytes = takes_gap inside && (list_all is_white (b ∷ gap) && not (is_white (byte bytes 0)))

-- with this text behind it, these bytes are this token and no more
abbrev pub IsToken : Inside → Before → Spelt → List ℕ → Type 0
IsToken inside before spelt after =
    piece (spelt.bytes ++ after) inside before 0 ≡ made spelt.kind (length spelt.bytes) spelt.change

-- each is a token before those behind it, and what is opened is closed
abbrev pub AreTokens : List Inside → Before → List Spelt → Type 0
AreTokens stack before [] = stack ≡ []
AreTokens stack before (spelt ∷ list) =
    (is_gap (innermost stack) spelt.gap spelt.bytes ≡ true)
    × (0 < length spelt.bytes)
    × IsToken (innermost stack) (behind_gap before spelt.gap) spelt (text_of list)
    × AreTokens (opened stack spelt.change) (before_of (Some spelt.kind)) list

-- the text of these tokens, behind a byte order mark or none, has these tokens
abbrev pub HasThese : List ℕ → List Spelt → Type 0
HasThese mark list =
    mark_length (mark ++ text_of list) ≡ length mark → AreTokens [] befores.Other list
    → tokens_of (mark ++ text_of list) ≡ Ok (reached (placed (length mark) list)).list
