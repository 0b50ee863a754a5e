-- The next token that is no comment.
use Rattle.std.proofs.Common.{◌≡◌, ◌<◌, ℕ, zero, suc, ◌+◌, ◌-◌, Bool, true, false, List, length, Option, Some, None, arith, refl, ◌∙◌, ap}
use Rattle.sw_parse_lexemes.specs.declared.sort.Sort.{Sort}
use Rattle.sw_parse_lexemes.specs.declared.sort.Sort.TheVariants as sorts
use Rattle.sw_parse_lexemes.specs.declared.plain.Plain.{Plain}
use Rattle.sw_parse_lexemes.specs.declared.state.Walk.TheVariants as walks
use Rattle.sw_parse_lexemes.specs.Ahead.{sort_at, over_comment, walk_by, walk_from, code_from, next_sort}

-- no part of a comment
abbrev pub is_code : Sort → Bool
is_code sorts.Comment = false
is_code sorts.CommentTemplate = false
is_code sorts.CommentEnd = false
is_code _ = true

ends_walk : (sort : Sort) → is_code sort ≡ true → over_comment sort 0 ≡ None
ends_walk sorts.Comment c = absurd (cc)
ends_walk sorts.CommentTemplate c = absurd (cc)
ends_walk sorts.CommentEnd c = absurd (cc)
ends_walk _ c = refl

walk_stays : (plains : List Plain) (n at : ℕ) → is_code (sort_at plains at) ≡ true
    → walk_by walks.Comments plains n 0 at ≡ at
walk_stays plains zero at c = refl
walk_stays plains (suc n) at c =
    ap (λ (more : Option ℕ). elim more as (λ _. ℕ) [ None ↦ at | Some k ↦ walk_by walks.Comments plains n k (at + 1) ])
    (ends_walk (sort_at plains at) c)

pub code_stays : (plains : List Plain) (at : ℕ) → is_code (sort_at plains at) ≡ true → code_from plains at ≡ at
unfolding walk_from
code_stays plains at c = walk_stays plains (length plains - at) at c

-- a comment is passed over
pub code_further : (plains : List Plain) (at : ℕ) → sort_at plains at ≡ sorts.Comment → at < length plains
    → code_from plains at ≡ code_from plains (at + 1)
unfolding walk_from
code_further plains at white low =
    ap (λ (n : ℕ). walk_by walks.Comments plains n 0 at)
    (let e : length plains - at ≡ suc (length plains - (at + 1)) = omega (arith, low) in e)
    ∙ ap (λ (more : Option ℕ). elim more as (λ _. ℕ) [ None ↦ at | Some k ↦ walk_by walks.Comments plains (length plains - (at + 1)) k (at + 1) ])
    (ap (λ (sort : Sort). over_comment sort 0) white)

pub next_code : (plains : List Plain) (at : ℕ) (sort : Sort) → is_code sort ≡ true → sort_at plains (at + 1) ≡ sort
    → next_sort plains at ≡ sort
next_code plains at sort c e =
    ap (sort_at plains) (code_stays plains (at + 1) (ap is_code e ∙ c)) ∙ e
