-- Looking ahead over the tokens of a text.
use Rattle.std.specs.Prelude.{ℕ, zero, suc, ◌+◌, ◌-◌, ◌==◌, nat_lt, Bool, true, not, ◌&&◌, ◌||◌, if◌then◌else◌, List, length, Option, Some, None, slice_get}
use Rattle.sw_parse_lexemes.specs.declared.sort.Sort.{Sort}
use Rattle.sw_parse_lexemes.specs.declared.sort.Sort.TheVariants as sorts
use Rattle.sw_parse_lexemes.specs.declared.plain.Plain.{Plain}
use Rattle.sw_parse_lexemes.specs.declared.state.Walk.{Walk}
use Rattle.sw_parse_lexemes.specs.declared.state.Walk.TheVariants as walks
use Rattle.sw_parse_lexemes.specs.Classes.{is_name, is_reserved, is_number, goes_on, same}

abbrev pub sort_in : Option Plain → Sort
sort_in None = sorts.Other
sort_in (Some plain) = plain.sort

-- white space stands before it, or the text ends
abbrev pub spaced_in : Option Plain → Bool
spaced_in None = true
spaced_in (Some plain) = plain.spaced

unfoldable pub sort_at : List Plain → ℕ → Sort
sort_at plains at = sort_in (slice_get plains at)

unfoldable pub spaced_at : List Plain → ℕ → Bool
spaced_at plains at = spaced_in (slice_get plains at)

abbrev pub length_in : Option Plain → ℕ
length_in None = 0
length_in (Some plain) = plain.to - plain.from

-- how many bytes the token at a place has
unfoldable pub length_at : List Plain → ℕ → ℕ
length_at plains at = length_in (slice_get plains at)

-- a token of this sort stands here, with nothing between it and the one before
abbrev pub is_direct : List Plain → ℕ → Sort → Bool
is_direct plains at sort = not (spaced_at plains at) && same (sort_at plains at) sort

abbrev pub name_direct : List Plain → ℕ → Bool
name_direct plains at = not (spaced_at plains at) && is_name (sort_at plains at)

abbrev pub number_direct : List Plain → ℕ → Bool
number_direct plains at = not (spaced_at plains at) && is_number (sort_at plains at)

-- a walk over tokens: how many brackets are open behind one of this sort, or none where it ends there

-- over comments
abbrev pub over_comment : Sort → ℕ → Option ℕ
over_comment sorts.Comment count = Some count
over_comment sorts.CommentTemplate count = Some (count + 1)
over_comment sorts.CommentEnd count = Some (count - 1)
over_comment _ count = if nat_lt 0 count then Some count else None

abbrev pub in_insert : Sort → ℕ → ℕ
in_insert sorts.OpenInsert count = count + 1
in_insert sorts.CloseInsert count = count - 1
in_insert _ count = count

-- over a word, with all that stands in its `#{}`
abbrev pub over_word : Sort → Bool → ℕ → Option ℕ
over_word sort spaced count =
    if nat_lt 0 count then Some (in_insert sort count)
    else (if not spaced && goes_on sort then Some (in_insert sort 0)
    else None)

-- up to the first `;`, `{` or `}` outside brackets
abbrev pub to_sign : Sort → ℕ → Option ℕ
to_sign sorts.OpenParen count = Some (count + 1)
to_sign sorts.OpenBracket count = Some (count + 1)
to_sign sorts.OpenInsert count = Some (count + 1)
to_sign sorts.CloseParen count = Some (count - 1)
to_sign sorts.CloseBracket count = Some (count - 1)
to_sign sorts.CloseInsert count = Some (count - 1)
to_sign sorts.OpenBrace count = if count == 0 then None else Some count
to_sign sorts.CloseBrace count = if count == 0 then None else Some count
to_sign sorts.Semicolon count = if count == 0 then None else Some count
to_sign _ count = Some count

abbrev pub walk_step : Walk → Sort → Bool → ℕ → Option ℕ
walk_step walks.Comments sort spaced count = over_comment sort count
walk_step walks.Word sort spaced count = over_word sort spaced count
walk_step walks.Sign sort spaced count = to_sign sort count

abbrev pub walk_by : Walk → List Plain → ℕ → ℕ → ℕ → ℕ
walk_by walk plains zero count at = at
walk_by walk plains (suc n) count at =
    elim (walk_step walk (sort_at plains at) (spaced_at plains at) count) as (λ _. ℕ) [
      | None ↦ at
      | Some more ↦ walk_by walk plains n more (at + 1)
    ]

-- where a walk from a place on ends, with so many brackets open there
unfoldable pub walk_from : Walk → List Plain → ℕ → ℕ → ℕ
walk_from walk plains count at = walk_by walk plains (length plains - at) count at

-- the first place from one on that is no comment
abbrev pub code_from : List Plain → ℕ → ℕ
code_from plains at = walk_from walks.Comments plains 0 at

-- the sort of the next token that is no comment
abbrev pub next_sort : List Plain → ℕ → Sort
next_sort plains at = sort_at plains (code_from plains (at + 1))

-- the first `;`, `{` or `}` from a place on, outside brackets, is a `{`
abbrev pub opens_block : List Plain → ℕ → Bool
opens_block plains at = same (sort_at plains (walk_from walks.Sign plains 0 at)) sorts.OpenBrace

-- a word begins at a place: a name that is no operator and no constant, or with `#{}`
abbrev pub begins_word : List Plain → ℕ → Bool
begins_word plains at =
    if is_name (sort_at plains at)
    then not (is_reserved (sort_at plains at)) || is_direct plains (at + 1) sorts.OpenInsert
    else (same (sort_at plains at) sorts.OpenInsert
    || (same (sort_at plains at) sorts.Minus && is_direct plains (at + 1) sorts.OpenInsert))

-- the place behind the word whose first token stands at a place
abbrev pub behind_first : List Plain → ℕ → ℕ
behind_first plains at = walk_from walks.Word plains (in_insert (sort_at plains at) 0) (at + 1)
