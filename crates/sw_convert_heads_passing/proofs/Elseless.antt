-- Where no `@else` comes behind comments: behind the statements of a list that doesn't begin with one.
use Rattle.std.proofs.Common.{◌≡◌, ℕ, Bool, true, false, not, List, [], ◌∷◌, ◌++◌, None, refl, sym, ◌∙◌, ap, subst, append_assoc}
use Rattle.sw_parse_lexemes.specs.declared.sort.Sort.{Sort}
use Rattle.sw_parse_lexemes.specs.declared.sort.Sort.TheVariants as sorts
use Rattle.sw_parse_lexemes.specs.declared.plain.Plain.{Plain}
use Rattle.sw_parse_lexemes.specs.declared.state.Walk.TheVariants as walks
use Rattle.sw_parse_lexemes.specs.Classes.{is_comment, is_else}
use Rattle.sw_parse_lexemes.specs.Ahead.{sort_at, over_comment, code_from}
use Rattle.sw_convert_passing.specs.Written.{Written, Stand}
use Rattle.sw_convert_passing.proofs.Entries.{split}
use Rattle.sw_convert_heads_passing.specs.Media.{is_code}
use Rattle.sw_convert_heads_passing.specs.Blocks.{open_sign, close_sign}
use Rattle.sw_convert_heads_passing.specs.Comments.{Comment, whole, with_values, ends_comment}
use Rattle.sw_convert_heads_passing.specs.Statements.{begins_else, Statements, no_statement, statement_ended, statement_block, statement_rule, statement_comment}
use Rattle.sw_convert_heads_passing.proofs.Selectors.{ends}
use Rattle.sw_convert_heads_passing.proofs.Fronts.{begins_code, front_code, headed_code, rule_code, rule_else}
use Rattle.sw_convert_heads_passing.proofs.Loud.{comment_over, ends_over, comment_ends}

-- no `@else` comes behind all comments
abbrev pub IsElseless : List Plain → ℕ → Type 0
IsElseless plains at = is_else (sort_at plains (code_from plains at)) ≡ false

-- where it does behind these tokens, they end with no comment
abbrev pub IsElselessBehind : List Plain → ℕ → Bool → List Written → Type 0
IsElselessBehind plains to before tokens = ends_comment before tokens ≡ true → IsElseless plains to

pub code_there : (plains : List Plain) (at to : ℕ) (left right : List Written) → begins_code left ≡ true
    → begins_else left ≡ false → Stand plains at (left ++ right) to → IsElseless plains at
code_there plains at to [] right c e stand = absurd (cc)
code_there plains at to (one ∷ left) right c e (there, stand) =
    ap (λ (k : ℕ). is_else (sort_at plains k)) (ends walks.Comments plains at 0 (over one.sort c there.sort))
    ∙ ap is_else there.sort ∙ e
  where
    none : (sort : Sort) → is_code sort ≡ true → over_comment sort 0 ≡ None
    none sorts.Comment k = absurd (cc)
    none sorts.CommentTemplate k = absurd (cc)
    none sorts.CommentEnd k = absurd (cc)
    none _ k = refl

    over : (sort : Sort) → is_code sort ≡ true → sort_at plains at ≡ sort → over_comment (sort_at plains at) 0 ≡ None
    over sort k f = ap (λ (x : Sort). over_comment x 0) f ∙ none sort k

pub elseless : {first : Bool} {tokens : List Written} → Statements first tokens → first ≡ false → (plains : List Plain)
    (at to : ℕ) → Stand plains at tokens to → IsElselessBehind plains to true tokens → IsElseless plains at
elseless no_statement f plains at to e behind = subst (IsElseless plains) (sym e) (behind refl)
elseless (statement_ended {front = front} spaced fronted more) f plains at to stand behind =
    code_there plains at to front _ (front_code fronted) f stand
elseless (statement_block {front = front} spaced blank fronted custom inside more) f plains at to stand behind =
    code_there plains at to front _ (headed_code fronted) f stand
elseless (statement_rule {text} {inner} {rest} spaced blank raw is inside more) f plains at to stand behind =
    code_there plains at to (text ++ open_sign spaced ∷ []) (inner ++ close_sign blank ∷ rest)
    (rule_code (text ++ open_sign spaced ∷ []) is) (rule_else (text ++ open_sign spaced ∷ []) is)
    (subst (λ (l : List Written). Stand plains at l to)
    (sym (append_assoc text (open_sign spaced ∷ []) (inner ++ close_sign blank ∷ rest))) stand)
elseless (statement_comment {comment} {rest} loud more) f plains at to stand behind =
    let (place, first, second) = split plains to comment rest at stand in
    ap (λ (k : ℕ). is_else (sort_at plains k)) (comment_over loud plains at place first)
    ∙ elseless more refl plains place to second
    (λ e. behind (ends_over comment true rest ∙ ap (λ (b : Bool). ends_comment b rest) (comment_ends loud true) ∙ e))

-- behind a token that is of no comment
pub rest_behind : (plains : List Plain) (to : ℕ) (left : List Written) (one : Written) (rest : List Written)
    → is_code one.sort ≡ true → IsElselessBehind plains to false (left ++ one ∷ rest)
    → IsElselessBehind plains to false rest
rest_behind plains to left one rest c behind e =
    behind (ends_over left false (one ∷ rest) ∙ ap (λ (b : Bool). ends_comment (not b) rest) c ∙ e)

pub true_behind : (rest : List Written) → ends_comment false rest ≡ true → ends_comment true rest ≡ true
true_behind [] e = absurd (cc)
true_behind (one ∷ rest) e = e

-- behind a block
pub block_behind : (plains : List Plain) (to : ℕ) (front : List Written) (spaced : Bool) (inner : List Written)
    (blank : Bool) (rest : List Written)
    → IsElselessBehind plains to false (front ++ open_sign spaced ∷ (inner ++ close_sign blank ∷ rest))
    → IsElselessBehind plains to false rest
block_behind plains to front spaced inner blank rest behind e =
    behind (ends_over front false (open_sign spaced ∷ (inner ++ close_sign blank ∷ rest))
    ∙ ends_over inner false (close_sign blank ∷ rest) ∙ e)

pub comment_there : {tokens : List Written} → Comment tokens → (plains : List Plain) (at to : ℕ)
    → Stand plains at tokens to → is_comment (sort_at plains at) ≡ true
comment_there whole plains at to (there, e) = ap is_comment there.sort
comment_there (with_values inside) plains at to (there, stand) = ap is_comment there.sort
