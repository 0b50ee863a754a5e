-- What the layout and the pass over tokens both see of a token: brackets, `#{}`, comments, and all others.
use Rattle.std.specs.Prelude.{◌≡◌, Bool, true, false, ◌&&◌, List, [], ◌∷◌}
use Rattle.sw_tokens.specs.declared.token.TokenKind.{TokenKind}
use Rattle.sw_tokens.specs.declared.token.TokenKind.TheVariants as kinds
use Rattle.sw_parse_lexemes.specs.declared.sort.Sort.{Sort}
use Rattle.sw_parse_lexemes.specs.declared.sort.Sort.TheVariants as sorts
use Rattle.sw_convert_spelling.specs.Spelt.{Spelt}
use Rattle.sw_convert_passing.specs.Written.{Written}
use Rattle.sw_convert_laid.specs.Heads.{is_comment}
use Rattle.sw_convert_laid.specs.Held.{has_none, is_empty_comment}

pub data Mark : Type 0 where
  Plain : Mark
  OpensInsert : Mark
  ClosesInsert : Mark
  OpensParen : Mark
  ClosesParen : Mark
  OpensSquare : Mark
  ClosesSquare : Mark
  Brace : Mark
  Noted : Mark

abbrev pub kind_mark : TokenKind → Mark
kind_mark kinds.OpenInterpolation = OpensInsert
kind_mark kinds.CloseInterpolation = ClosesInsert
kind_mark kinds.OpenParen = OpensParen
kind_mark kinds.CloseParen = ClosesParen
kind_mark kinds.OpenBracket = OpensSquare
kind_mark kinds.CloseBracket = ClosesSquare
kind_mark kinds.OpenBrace = Brace
kind_mark kinds.CloseBrace = Brace
kind_mark kinds.Comment = Noted
kind_mark kinds.CommentTemplate = Noted
kind_mark _ = Plain

abbrev pub sort_mark : Sort → Mark
sort_mark sorts.OpenInsert = OpensInsert
sort_mark sorts.CloseInsert = ClosesInsert
sort_mark sorts.OpenParen = OpensParen
sort_mark sorts.CloseParen = ClosesParen
sort_mark sorts.OpenBracket = OpensSquare
sort_mark sorts.CloseBracket = ClosesSquare
sort_mark sorts.OpenBrace = Brace
sort_mark sorts.CloseBrace = Brace
sort_mark sorts.Comment = Noted
sort_mark sorts.CommentTemplate = Noted
sort_mark _ = Plain

abbrev pub is_noted : Mark → Bool
is_noted Noted = true
is_noted _ = false

-- `=` and `+`, which name members at the beginning of a line
abbrev pub is_member : TokenKind → Bool
is_member kinds.Equals = true
is_member kinds.Plus = true
is_member _ = false

abbrev pub is_member_sort : Sort → Bool
is_member_sort sorts.Equals = true
is_member_sort sorts.Plus = true
is_member_sort _ = false

-- an empty comment, which stands between two tokens
abbrev pub is_seam : Spelt → Bool
is_seam spelt = is_comment spelt.kind && is_empty_comment spelt

-- a token as it is written, and as the pass over tokens has it: a comment that the grammar doesn't see is an empty one
pub record IsSame (spelt : Spelt) (one : Written) : Type 0 where
  pub mark : kind_mark spelt.kind ≡ sort_mark one.sort
  pub member : is_member spelt.kind ≡ true → is_member_sort one.sort ≡ true
  pub empty : is_noted (sort_mark one.sort) ≡ true → has_none one.may_be ≡ true → is_seam spelt ≡ true

abbrev pub AreSame : List Spelt → List Written → Type 0
AreSame [] [] = Unit {0}
AreSame [] (one ∷ tokens) = ⊥
AreSame (spelt ∷ list) [] = ⊥
AreSame (spelt ∷ list) (one ∷ tokens) = IsSame spelt one × AreSame list tokens
