-- What stands in a line, token by token, so that the layout takes each as it stands: what a line holds.
use Rattle.std.specs.Prelude.{◌≡◌, ◌<◌, ℕ, Bool, true, false, if◌then◌else◌, List, [], ◌∷◌, ◌++◌, length, Some, codes}
use Rattle.std.specs.List.{list_all}
use Rattle.sw_tokens.specs.declared.pieces.Before.{Before}
use Rattle.sw_tokens.specs.declared.skips.Inside.{Inside}
use Rattle.sw_tokens.specs.declared.token.TokenKind.{TokenKind}
use Rattle.sw_tokens.specs.declared.token.TokenKind.TheVariants as kinds
use Rattle.sw_tokens.specs.Tokens.{before_of, is_spaced}
use Rattle.sw_parse_layout.specs.declared.sorts.Sort.{Sort}
use Rattle.sw_parse_layout.specs.declared.sorts.Sort.TheVariants as sorts
use Rattle.sw_parse_layout.specs.declared.state.Bracket.{Bracket}
use Rattle.sw_parse_layout.specs.Lines.{is_blank}
use Rattle.sw_parse_layout.specs.Sorts.{sorted}
use Rattle.sw_parse_layout.specs.Pieces.{bracketed, renamed, is_refused_sign}
use Rattle.sw_parse_layout.specs.Steps.{is_comma}
use Rattle.sw_convert_spelling.specs.Spelt.{Spelt, text_of, behind_gap, innermost, opened, is_gap, IsToken}

-- what the tokens of a statement so far leave open (strings, urls and `#{}`, the innermost first, and brackets outside
-- these), and what they tell of its form
pub record Told : Type 0 where
  pub stack : List Inside
  pub brackets : List Bracket
  pub sort : Sort

abbrev pub untold : Told
untold = record { stack = []; brackets = []; sort = sorts.Fresh }

-- no string, url or `#{}` is open
abbrev pub is_ground : List Inside → Bool
is_ground [] = true
is_ground (inside ∷ outer) = false

abbrev pub is_comment : TokenKind → Bool
is_comment kinds.Comment = true
is_comment _ = false

abbrev pub opens_comment : TokenKind → Bool
opens_comment kinds.CommentTemplate = true
opens_comment _ = false

-- with one token more: a comment tells nothing, and in a string, url or `#{}` brackets and form stay
abbrev pub told_in : List Inside → Told → Bool → Spelt → Told
told_in [] told spaced spelt =
    if is_comment spelt.kind then told
    else record {
      stack = opened [] spelt.change;
      brackets = bracketed told.brackets (Some spelt.kind);
      sort = sorted told.sort spelt.kind spaced;
    }
told_in (inside ∷ outer) told spaced spelt =
    record { stack = opened (inside ∷ outer) spelt.change; brackets = told.brackets; sort = told.sort }

abbrev pub told_with : Told → Bool → Spelt → Told
told_with told spaced spelt = told_in told.stack told spaced spelt

-- a line holds this token outside strings, urls and `#{}`: it is no sign for which lines stand, and none of `=` and `+`
-- as the name of a member; no line ends before it; and a comment is an empty one
pub record IsHeld (told : Told) (spelt : Spelt) : Type 0 where
  pub blank : list_all is_blank spelt.gap ≡ true
  pub allowed : is_refused_sign told.brackets (Some spelt.kind) ≡ false
  pub named : renamed told.sort (Some spelt.kind) ≡ Some spelt.kind
  pub whole : opens_comment spelt.kind ≡ false
  pub empty : is_comment spelt.kind ≡ true → spelt.bytes ≡ codes "/**/"

-- each is a token before those behind it and this text, and a line holds it. Behind the last one nothing is open, the
-- statement doesn't go on over the end of its line, and no white space or comment stands there
abbrev pub AreHeld : Told → Before → List Spelt → List ℕ → Type 0
AreHeld told before [] after =
    (told.stack ≡ []) × (told.brackets ≡ []) × (is_comma told.sort ≡ false) × (is_spaced before ≡ false)
AreHeld told before (spelt ∷ list) after =
    (is_gap (innermost told.stack) spelt.gap spelt.bytes ≡ true)
    × (0 < length spelt.bytes)
    × IsToken (innermost told.stack) (behind_gap before spelt.gap) spelt (text_of list ++ after)
    × (is_ground told.stack ≡ true → IsHeld told spelt)
    × AreHeld (told_with told (is_spaced (behind_gap before spelt.gap)) spelt) (before_of (Some spelt.kind)) list after
