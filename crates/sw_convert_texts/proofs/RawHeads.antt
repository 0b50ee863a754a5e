-- Raw text as the pass over tokens sees it from its begin on.
use Rattle.std.proofs.Common.{◌≡◌, ◌⊎◌, ℕ, Bool, true, false, List, [], ◌∷◌, ◌++◌, Option, Some, None, refl, ◌∙◌, ap, append_assoc}
use Rattle.sw_tokens.specs.declared.pieces.Before.{Before}
use Rattle.sw_tokens.specs.Tokens.{is_spaced}
use Rattle.sw_parse_lexemes.specs.declared.sort.Sort.{Sort}
use Rattle.sw_parse_lexemes.specs.declared.sort.Sort.TheVariants as sorts
use Rattle.sw_parse_lexemes.specs.declared.state.Walk.TheVariants as walks
use Rattle.sw_parse_lexemes.specs.Ahead.{to_sign}
use Rattle.sw_parse_lexemes.specs.declared.state.Mode.{Mode}
use Rattle.sw_parse_lexemes.specs.Brackets.{is_custom}
use Rattle.sw_parse_lexemes.specs.Classes.{is_name, same}
use Rattle.sw_parse_table.specs.declared.source.Source.{Source}
use Rattle.sw_parse_table.specs.Parts.{Part}
use Rattle.sw_convert_spelling.specs.Spelt.{behind_gap}
use Rattle.sw_convert_passing.specs.Written.{Written}
use Rattle.sw_convert_heads_passing.specs.Rules.{walked}
use Rattle.sw_convert_again.specs.Tokens.{Tok, Extent}
use Rattle.sw_convert_again.specs.RawTexts.{SpellsRawItem, SpellsRawText, raw_token, raw_end, raw_more}
use Rattle.sw_convert_texts.specs.RawKinds.{gap_before, leaves}
use Rattle.sw_convert_texts.specs.RuleTexts.{item_sort, item_digits, is_literal}

-- a token that is written has the sort of the one that was read; both may be numbers or strings
abbrev pub ToldSort : Sort → Sort → Type 0
ToldSort sort new = (new ≡ sort) ⊎ ((is_literal sort ≡ true) × (is_literal new ≡ true))

-- tokens begin with one of a sort, which is digits with a unit, or not
pub record Head (sort : Sort) (digits spaced : Bool) (list : List Written) : Type 0 where
  pub head : Written
  pub tail : List Written
  pub is : list ≡ head ∷ tail
  pub told : ToldSort sort head.sort
  pub digits_is : digits ≡ true → head.sort ≡ sorts.Digits
  pub spaced_is : head.spaced ≡ spaced

-- a walk up to a `;` or a brace goes over them
abbrev pub Walks : List Written → Type 0
Walks list = (count : ℕ) (rest : List Written) → walked walks.Sign count (list ++ rest) ≡ walked walks.Sign count rest

pub walks_append : (xs ys : List Written) → Walks xs → Walks ys → Walks (xs ++ ys)
walks_append xs ys one more count rest =
    ap (walked walks.Sign count) (append_assoc xs ys rest) ∙ one count (ys ++ rest) ∙ more count rest

-- neither brackets nor a `;`
abbrev pub is_neutral : Sort → Bool
is_neutral sorts.OpenParen = false
is_neutral sorts.OpenBracket = false
is_neutral sorts.OpenInsert = false
is_neutral sorts.CloseParen = false
is_neutral sorts.CloseBracket = false
is_neutral sorts.CloseInsert = false
is_neutral sorts.OpenBrace = false
is_neutral sorts.CloseBrace = false
is_neutral sorts.Semicolon = false
is_neutral _ = true

pub name_neutral : (sort : Sort) → is_name sort ≡ true → is_neutral sort ≡ true
name_neutral sorts.OpenParen e = absurd (cc)
name_neutral sorts.OpenBracket e = absurd (cc)
name_neutral sorts.OpenInsert e = absurd (cc)
name_neutral sorts.CloseParen e = absurd (cc)
name_neutral sorts.CloseBracket e = absurd (cc)
name_neutral sorts.CloseInsert e = absurd (cc)
name_neutral sorts.OpenBrace e = absurd (cc)
name_neutral sorts.CloseBrace e = absurd (cc)
name_neutral sorts.Semicolon e = absurd (cc)
name_neutral _ e = refl

neutral_step : (sort : Sort) (count : ℕ) → is_neutral sort ≡ true → to_sign sort count ≡ Some count
neutral_step sorts.OpenParen count e = absurd (cc)
neutral_step sorts.OpenBracket count e = absurd (cc)
neutral_step sorts.OpenInsert count e = absurd (cc)
neutral_step sorts.CloseParen count e = absurd (cc)
neutral_step sorts.CloseBracket count e = absurd (cc)
neutral_step sorts.CloseInsert count e = absurd (cc)
neutral_step sorts.OpenBrace count e = absurd (cc)
neutral_step sorts.CloseBrace count e = absurd (cc)
neutral_step sorts.Semicolon count e = absurd (cc)
neutral_step _ count e = refl

-- where a walk goes on from a token
abbrev goes_from : Written → List Written → Option ℕ → List Written
goes_from token rest o = elim o as (λ _. List Written) [
  | None ↦ token ∷ rest
  | Some more ↦ walked walks.Sign more rest
]

pub one_walks : (token : Written) → is_neutral token.sort ≡ true → Walks (token ∷ [])
one_walks token e count rest = ap (goes_from token rest) (neutral_step token.sort count e)

-- ---- items

abbrev pub is_one : {source : Source} {i k : ℕ} {parts : List Part} {tokens : List Tok} {extents : List Extent}
    → SpellsRawItem source i k parts tokens extents → Bool
is_one (raw_token old) = true
is_one _ = false

-- behind the `#{` of a value a walk over a word goes over the rest of it
abbrev pub IsOver : Sort → List Written → List Written → Type 0
IsOver sort tail rest =
    same sort sorts.OpenInsert ≡ true → (more : List Written)
    → walked walks.Word 1 (tail ++ more) ≡ walked walks.Word 0 (rest ++ more)

-- items one behind the other begin so, where this stands before them, and so do those behind the first
abbrev pub RowHead : Mode → {source : Source} {i j : ℕ} {parts : List Part} {tokens : List Tok} {extents : List Extent}
    → Before → SpellsRawText source i j parts tokens extents → List Written → Type 0
RowHead mode start raw_end list = list ≡ []
RowHead mode {source} start (raw_more {i = i} item text) list =
    (rest : List Written)
    × (head : Head (item_sort item) (item_digits item) (is_spaced (behind_gap start (gap_before source i))) list)
    × (is_one item ≡ true → head.tail ≡ rest)
    × IsOver (item_sort item) head.tail rest
    × (is_custom mode ≡ false → Walks list)
    × RowHead mode (leaves item) text rest
