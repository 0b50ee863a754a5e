-- A statement that has begun is told by its tokens from then on.
use Rattle.std.proofs.Common.{◌≡◌, Bool, true, false, not, ◌&&◌, if◌then◌else◌, Option, None, refl}
use Rattle.sw_tokens.specs.declared.token.TokenKind.{TokenKind}
use Rattle.sw_tokens.specs.declared.token.TokenKind.TheVariants as kinds
use Rattle.sw_parse_layout.specs.declared.sorts.Sort.{Sort}
use Rattle.sw_parse_layout.specs.declared.sorts.Sort.TheVariants as sorts
use Rattle.sw_parse_layout.specs.Sorts.{selector_by, first_sort, goes_on, is_interpolation, is_dollar, is_pseudo, behind_word, behind_dashed, is_dot, sorted}
use Rattle.sw_parse_layout.specs.Pieces.{renamed}

abbrev pub is_fresh : Sort → Bool
is_fresh sorts.Fresh = true
is_fresh _ = false

selector_begun : (kind : TokenKind) → is_fresh (selector_by kind) ≡ false
selector_begun kinds.Comma = refl
selector_begun _ = refl

first_begun : (kind : TokenKind) → is_fresh (first_sort kind) ≡ false
first_begun kinds.AtName = refl
first_begun kinds.At = refl
first_begun kinds.Dollar = refl
first_begun kinds.Word = refl
first_begun kinds.Name = refl
first_begun kinds.DashedName = refl
first_begun kinds.Minus = refl
first_begun kinds.OpenInterpolation = refl
first_begun kinds.Comma = refl
first_begun _ = refl

word_begun : (kind : TokenKind) → is_fresh (behind_word kind) ≡ false
word_begun kinds.Colon = refl
word_begun kinds.Comma = refl
word_begun _ = refl

dashed_begun : (kind : TokenKind) → is_fresh (behind_dashed kind) ≡ false
dashed_begun kinds.Colon = refl
dashed_begun kinds.Comma = refl
dashed_begun _ = refl

chosen : (t : Bool) (a b : Sort) → is_fresh a ≡ false → is_fresh b ≡ false → is_fresh (if t then a else b) ≡ false
chosen true a b e f = e
chosen false a b e f = f

pub begun : (sort : Sort) (kind : TokenKind) (spaced : Bool) → is_fresh (sorted sort kind spaced) ≡ false
unfolding sorted
begun sorts.Fresh kind spaced = first_begun kind
begun sorts.Minus kind spaced = chosen (is_interpolation kind && not spaced) sorts.Word (selector_by kind) refl (selector_begun kind)
begun sorts.Named kind spaced =
    chosen (is_dot kind && not spaced) sorts.Dotted _ refl
    (chosen (goes_on kind && not spaced) sorts.Word (behind_word kind) refl (word_begun kind))
begun sorts.Dotted kind spaced = chosen (is_dollar kind && not spaced) sorts.Other (selector_by kind) refl (selector_begun kind)
begun sorts.Word kind spaced = chosen (goes_on kind && not spaced) sorts.Word (behind_word kind) refl (word_begun kind)
begun sorts.Dashed kind spaced =
    chosen (goes_on kind && not spaced) sorts.Dashed (behind_dashed kind) refl (dashed_begun kind)
begun sorts.Colon kind spaced = chosen (is_pseudo kind && not spaced) sorts.Selector sorts.Other refl refl
begun sorts.Selector kind spaced = selector_begun kind
begun sorts.Comma kind spaced = selector_begun kind
begun sorts.Other kind spaced = refl

-- only the first token of a statement may stand for another
pub same_name : (sort : Sort) (token : Option TokenKind) → is_fresh sort ≡ false → renamed sort token ≡ token
same_name sorts.Fresh token e = absurd (cc)
same_name _ token e = refl

pub no_name : (sort : Sort) → renamed sort None ≡ None
no_name sorts.Fresh = refl
no_name _ = refl
