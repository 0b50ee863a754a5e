-- Tokens that begin a rule, by the first of them.
use Rattle.std.proofs.Common.{◌≡◌, ◌⊎◌, ℕ, Bool, true, false, not, ◌&&◌, ◌||◌, inl, inr, List, [], ◌∷◌, ◌++◌, Option, Some, None, refl, sym, ◌∙◌, ap}
use Rattle.std.specs.Prelude.{if◌then◌else◌}
use Rattle.sw_text_scan.proofs.Bounds.{and_right, if_true, if_false, not_true}
use Rattle.sw_parse_lexemes.specs.declared.sort.Sort.{Sort}
use Rattle.sw_parse_lexemes.specs.declared.sort.Sort.TheVariants as sorts
use Rattle.sw_parse_lexemes.specs.declared.state.Walk.TheVariants as walks
use Rattle.sw_parse_lexemes.specs.Ahead.{in_insert, over_comment}
use Rattle.sw_parse_lexemes.specs.Classes.{is_name, starts_name, goes_on as goes_on_sort, same}
use Rattle.sw_convert_spelling.proofs.Choices.{left_no, right_no, neither, both}
use Rattle.sw_convert_passing.specs.Written.{Written}
use Rattle.sw_convert_passing.specs.Kinds.{is_dot}
use Rattle.sw_convert_passing.specs.Values.{seam}
use Rattle.sw_convert_heads_passing.specs.Blocks.{open_sign}
use Rattle.sw_convert_heads_passing.specs.Media.{is_insert}
use Rattle.sw_convert_heads_passing.specs.Rules.{walked, is_direct, begins_word, begins_block, begins_pseudo, is_pseudo, goes_on, no_colon, no_variable, begins_selector, begins_other, is_rule_by, is_rule}
use Rattle.sw_convert_texts.specs.RuleTexts.{is_begin, is_literal, is_lead, is_type, seams_of}
use Rattle.sw_convert_texts.proofs.RawHeads.{ToldSort, Walks}

-- what stands behind the text: the `{`, and an empty comment before it or none
abbrev pub block : Bool → List Written
block unclosed = seams_of unclosed ++ open_sign true ∷ []

abbrev token_of : Sort → Written → Written
token_of sort token = record token { sort = sort }

-- ---- sorts

pub which : (a b : Bool) → (a || b) ≡ true → (a ≡ true) ⊎ (b ≡ true)
which true b e = inl refl
which false b e = inr e

-- what is so of numbers and strings
by_literal : (f : Sort → Bool) (v : Bool) → f sorts.Digits ≡ v → f sorts.Number ≡ v → f sorts.Quoted ≡ v → f sorts.Unnamed ≡ v
    → (sort : Sort) → is_literal sort ≡ true → f sort ≡ v
by_literal f v d n q u sorts.Digits e = d
by_literal f v d n q u sorts.Number e = n
by_literal f v d n q u sorts.Quoted e = q
by_literal f v d n q u sorts.Unnamed e = u
by_literal f v d n q u _ e = absurd (cc)

-- is so of a token that is written where it was so of the one that was read
pub as_told : (f : Sort → Bool) (v : Bool) → f sorts.Digits ≡ v → f sorts.Number ≡ v → f sorts.Quoted ≡ v → f sorts.Unnamed ≡ v
    → (sort new : Sort) → ToldSort sort new → f sort ≡ v → f new ≡ v
as_told f v d n q u sort new (inl e) g = ap f e ∙ g
as_told f v d n q u sort new (inr (l, m)) g = by_literal f v d n q u new m

pub exact : (sort new : Sort) → ToldSort sort new → is_literal sort ≡ false → new ≡ sort
exact sort new (inl e) f = e
exact sort new (inr (l, m)) f = absurd (let wrong : true ≡ false = sym l ∙ f in cc)

pub literal_new : (sort new : Sort) → ToldSort sort new → is_literal sort ≡ true → is_literal new ≡ true
literal_new sort new (inl e) f = ap is_literal e ∙ f
literal_new sort new (inr (l, m)) f = m

pub name_unliteral : (sort : Sort) → is_name sort ≡ true → is_literal sort ≡ false
name_unliteral sorts.Digits e = absurd (cc)
name_unliteral sorts.Number e = absurd (cc)
name_unliteral sorts.Quoted e = absurd (cc)
name_unliteral sorts.Unnamed e = absurd (cc)
name_unliteral _ e = refl

pub type_name : (sort : Sort) → is_type sort ≡ true → is_name sort ≡ true
type_name sorts.DashedName e = absurd (cc)
type_name _ e = e

-- a token with which a selector may begin is no word
lead_split : (sort : Sort) → is_lead sort ≡ true → (is_literal sort || (is_begin sort && not (is_name sort))) ≡ true
lead_split sorts.OpenInsert e = absurd (cc)
lead_split sorts.Minus e = absurd (cc)
lead_split sorts.Dollar e = absurd (cc)
lead_split _ e = e

lead_unnamed : (sort : Sort) → is_lead sort ≡ true → is_name sort ≡ false
lead_unnamed sort e = go (which (is_literal sort) _ (lead_split sort e))
  where
    go : (is_literal sort ≡ true) ⊎ ((is_begin sort && not (is_name sort)) ≡ true) → is_name sort ≡ false
    go (inl l) = by_literal is_name false refl refl refl refl sort l
    go (inr b) = not_true (is_name sort) (and_right (is_begin sort) _ b)

lead_insert : (sort : Sort) → is_lead sort ≡ true → is_insert sort ≡ false
lead_insert sorts.OpenInsert e = absurd (cc)
lead_insert _ e = refl

lead_minus : (sort : Sort) → is_lead sort ≡ true → same sort sorts.Minus ≡ false
lead_minus sorts.Minus e = absurd (cc)
lead_minus _ e = refl

abbrev is_dashed : Sort → Bool
is_dashed sorts.DashedName = true
is_dashed _ = false

named_dashed : (sort : Sort) → is_dashed sort ≡ true → is_name sort ≡ true
named_dashed sorts.DashedName e = refl
named_dashed _ e = absurd (cc)

lead_undashed : (sort : Sort) → is_lead sort ≡ true → is_dashed sort ≡ false
lead_undashed sort e = go (is_dashed sort) refl
  where
    go : (t : Bool) → is_dashed sort ≡ t → is_dashed sort ≡ false
    go true d = absurd (let none = lead_unnamed sort e in let wrong : true ≡ false = sym (named_dashed sort d) ∙ none in cc)
    go false d = d

type_undashed : (sort : Sort) → is_type sort ≡ true → is_dashed sort ≡ false
type_undashed sorts.DashedName e = absurd (cc)
type_undashed _ e = refl

-- the first token of another statement is neither such a token nor a name
unruled : (sort : Sort) → begins_other sort ≡ true → (is_lead sort || is_name sort) ≡ false
unruled sorts.Dollar e = refl
unruled sorts.Comment e = refl
unruled sorts.CommentTemplate e = refl
unruled sorts.CommentEnd e = refl
unruled sorts.At e = refl
unruled sorts.AtUse e = refl
unruled sorts.AtForward e = refl
unruled sorts.AtFunction e = refl
unruled sorts.AtMixin e = refl
unruled sorts.AtInclude e = refl
unruled sorts.AtContent e = refl
unruled sorts.AtReturn e = refl
unruled sorts.AtWarn e = refl
unruled sorts.AtDebug e = refl
unruled sorts.AtError e = refl
unruled sorts.AtIf e = refl
unruled sorts.AtElse e = refl
unruled sorts.AtElseIf e = refl
unruled sorts.AtEach e = refl
unruled sorts.AtFor e = refl
unruled sorts.AtWhile e = refl
unruled sorts.AtMedia e = refl
unruled sorts.AtSupports e = refl
unruled sorts.AtRoot e = refl
unruled sorts.AtCharset e = refl
unruled sorts.AtImport e = refl
unruled sorts.AtExtend e = refl
unruled sorts.AtName e = refl
unruled _ e = absurd (cc)

no_other : (sort : Sort) → (is_lead sort || is_name sort) ≡ true → begins_other sort ≡ false
no_other sort e = by (begins_other sort) refl
  where
    by : (t : Bool) → begins_other sort ≡ t → begins_other sort ≡ false
    by true f = absurd (let none = unruled sort f in let wrong : true ≡ false = sym e ∙ none in cc)
    by false f = f

pub or_first : (a b : Bool) → a ≡ true → (a || b) ≡ true
or_first true b e = refl
or_first false b e = absurd (cc)

pub or_second : (a b : Bool) → b ≡ true → (a || b) ≡ true
or_second true b e = refl
or_second false b e = e

rule_by : (sort : Sort) (first next : Written) (rest : List Written) → is_dashed sort ≡ false
    → is_rule_by sort first next rest ≡ (not (begins_other sort) && begins_selector first next rest)
rule_by sorts.DashedName first next rest e = absurd (let wrong : true ≡ false = e in cc)
rule_by _ first next rest e = refl

-- ---- by a sign, a number or a string

lead_selects : (first next : Written) (rest : List Written) → is_lead first.sort ≡ true → begins_selector first next rest ≡ true
lead_selects first next rest e =
    let n = lead_unnamed first.sort e in
    if_false (is_name first.sort && is_direct is_dot next) _ _ (left_no (is_name first.sort) _ n)
    ∙ if_false (begins_word first next) _ true
    (if_false (is_name first.sort) _ (is_insert first.sort || (same first.sort sorts.Minus && is_direct is_insert next)) n
    ∙ neither (is_insert first.sort) _ (lead_insert first.sort e) (left_no (same first.sort sorts.Minus) _ (lead_minus first.sort e)))

lead_by : (first next : Written) (rest : List Written) → is_lead first.sort ≡ true → is_rule_by first.sort first next rest ≡ true
lead_by first next rest e =
    rule_by first.sort first next rest (lead_undashed first.sort e)
    ∙ both (not (begins_other first.sort)) _ (ap not (no_other first.sort (or_first (is_lead first.sort) _ e)))
    (lead_selects first next rest e)

pub lead_rule : (first : Written) (tail : List Written) (unclosed : Bool) → is_lead first.sort ≡ true
    → is_rule (first ∷ (tail ++ block unclosed)) ≡ true
lead_rule first [] true e = lead_by first seam (open_sign true ∷ []) e
lead_rule first [] false e = lead_by first (open_sign true) [] e
lead_rule first (next ∷ tail) unclosed e = lead_by first next (tail ++ block unclosed) e

-- ---- behind a word

-- what is asked of the tokens behind it, where it begins with `--` and where it doesn't
abbrev pub ends_so : Bool → List Written → Bool
ends_so true tokens = no_colon tokens
ends_so false tokens = goes_on tokens

-- and of those with which it goes on, where so many `#{` are open
abbrev pub word_so : Bool → ℕ → List Written → Bool
word_so dashed count tokens = ends_so dashed (walked walks.Comments 0 (walked walks.Word count tokens))

pub block_so : (dashed unclosed : Bool) → word_so dashed 0 (block unclosed) ≡ true
block_so true true = refl
block_so true false = refl
block_so false true = refl
block_so false false = refl

-- a token that ends a word and is no comment
pub record Ends (next : Written) : Type 0 where
  pub apart : (not next.spaced && goes_on_sort next.sort) ≡ false
  pub seen : over_comment next.sort 0 ≡ None

pub no_comment : (sort : Sort) → (is_begin sort || is_literal sort) ≡ true → over_comment sort 0 ≡ None
no_comment sorts.Comment e = absurd (cc)
no_comment sorts.CommentTemplate e = absurd (cc)
no_comment sorts.CommentEnd e = absurd (cc)
no_comment _ e = refl

pub word_stops : (dashed : Bool) (next : Written) (rest : List Written) → Ends next
    → word_so dashed 0 (next ∷ rest) ≡ ends_so dashed (next ∷ rest)
word_stops dashed next rest ends =
    ap (λ (o : Option ℕ). ends_so dashed (walked walks.Comments 0 (elim o as (λ _. List Written) [ None ↦ next ∷ rest | Some more ↦ walked walks.Word more rest ])))
    (if_false (not next.spaced && goes_on_sort next.sort) _ None ends.apart)
    ∙ ap (λ (o : Option ℕ). ends_so dashed (elim o as (λ _. List Written) [ None ↦ next ∷ rest | Some more ↦ walked walks.Comments more rest ])) ends.seen

pub ends_plain : (dashed : Bool) (next : Written) (rest : List Written) → same next.sort sorts.Colon ≡ false
    → ends_so dashed (next ∷ rest) ≡ true
ends_plain true next rest e = ap not e
ends_plain false next rest e = ap (λ (t : Bool). not t || is_pseudo rest) e

pub ends_pseudo : (dashed : Bool) (next : Written) (rest : List Written) → not dashed ≡ true → is_pseudo rest ≡ true
    → ends_so dashed (next ∷ rest) ≡ true
ends_pseudo true next rest plain e = absurd (cc)
ends_pseudo false next rest plain e = or_second (not (same next.sort sorts.Colon)) _ e

-- a token that goes on with it
pub word_part : (dashed : Bool) (next : Written) (rest : List Written) (count : ℕ) → next.spaced ≡ false
    → goes_on_sort next.sort ≡ true → in_insert next.sort 0 ≡ count → word_so dashed 0 (next ∷ rest) ≡ word_so dashed count rest
word_part dashed next rest count direct goes counted =
    ap (λ (o : Option ℕ). ends_so dashed (walked walks.Comments 0 (elim o as (λ _. List Written) [ None ↦ next ∷ rest | Some more ↦ walked walks.Word more rest ])))
    (if_true (not next.spaced && goes_on_sort next.sort) _ None (both (not next.spaced) _ (ap not direct) goes) ∙ ap Some counted)

pub name_goes : (sort : Sort) → is_name sort ≡ true → goes_on_sort sort ≡ true
name_goes sorts.Digits e = refl
name_goes sorts.Minus e = refl
name_goes sorts.OpenInsert e = refl
name_goes _ e = e

pub named_insert : (sort : Sort) → is_name sort ≡ true → in_insert sort 0 ≡ 0
named_insert sorts.OpenInsert e = absurd (cc)
named_insert sorts.CloseInsert e = absurd (cc)
named_insert _ e = refl

-- ---- by a word

none_behind : {P : Type 0} (dashed : Bool) (count : ℕ) → word_so dashed count [] ≡ true → P
none_behind true count e = absurd (let wrong : false ≡ true = e in cc)
none_behind false count e = absurd (let wrong : false ≡ true = e in cc)

-- a `#{`
pub insert_rule : (first : Written) (tokens : List Written) → first.sort ≡ sorts.OpenInsert → word_so false 1 tokens ≡ true
    → is_rule (first ∷ tokens) ≡ true
insert_rule first [] s e = none_behind false 1 e
insert_rule first (next ∷ rest) s e = ap (λ (sort : Sort). is_rule_by sort (token_of sort first) next rest) s ∙ e

-- a `-`, which goes on with a `#{` or is no word
pub minus_rule : (first : Written) (tokens : List Written) → first.sort ≡ sorts.Minus → word_so false 0 tokens ≡ true
    → is_rule (first ∷ tokens) ≡ true
minus_rule first [] s e = none_behind false 0 e
minus_rule first (next ∷ rest) s e =
    ap (λ (sort : Sort). is_rule_by sort (token_of sort first) next rest) s ∙ go (is_direct is_insert next)
  where
    go : (t : Bool) → (if t then word_so false 0 (next ∷ rest) else true) ≡ true
    go true = e
    go false = refl

-- a name that begins with `--`
pub dashed_rule : (first : Written) (tokens : List Written) → first.sort ≡ sorts.DashedName → word_so true 0 tokens ≡ true
    → is_rule (first ∷ tokens) ≡ true
dashed_rule first [] s e = none_behind true 0 e
dashed_rule first (next ∷ rest) s e = ap (λ (sort : Sort). is_rule_by sort (token_of sort first) next rest) s ∙ e

-- where what stands behind a name goes on as a rule
selector_by : (first next : Written) (rest : List Written) → is_name first.sort ≡ true
    → (is_direct is_dot next ≡ true → no_variable rest ≡ true)
    → (is_direct is_dot next ≡ false → word_so false 0 (next ∷ rest) ≡ true)
    → begins_selector first next rest ≡ true
selector_by first next rest n dot more = go (is_direct is_dot next) refl
  where
    word : (t : Bool) → (is_direct is_dot next ≡ false) → (if t then word_so false (in_insert first.sort 0) (next ∷ rest) else true) ≡ true
    word true d = ap (λ (count : ℕ). word_so false count (next ∷ rest)) (named_insert first.sort n) ∙ more d
    word false d = refl

    go : (t : Bool) → is_direct is_dot next ≡ t → begins_selector first next rest ≡ true
    go true d = if_true (is_name first.sort && is_direct is_dot next) _ _ (both (is_name first.sort) _ n d) ∙ dot d
    go false d =
        if_false (is_name first.sort && is_direct is_dot next) _ _ (right_no (is_name first.sort) _ d) ∙ word (begins_word first next) d

-- any other name
pub name_rule : (first next : Written) (rest : List Written) → is_type first.sort ≡ true
    → (is_direct is_dot next ≡ true → no_variable rest ≡ true)
    → (is_direct is_dot next ≡ false → word_so false 0 (next ∷ rest) ≡ true)
    → is_rule (first ∷ next ∷ rest) ≡ true
name_rule first next rest e dot more =
    let n = type_name first.sort e in
    rule_by first.sort first next rest (type_undashed first.sort e)
    ∙ both (not (begins_other first.sort)) _ (ap not (no_other first.sort (or_second (is_lead first.sort) _ n)))
    (selector_by first next rest n dot more)

-- by itself
pub alone_rule : (first : Written) (unclosed : Bool) → is_type first.sort ≡ true → is_rule (first ∷ block unclosed) ≡ true
alone_rule first true e =
    name_rule first seam (open_sign true ∷ []) e (λ d. absurd (let wrong : false ≡ true = d in cc)) (λ d. block_so false true)
alone_rule first false e =
    name_rule first (open_sign true) [] e (λ d. absurd (let wrong : false ≡ true = d in cc)) (λ d. block_so false false)

-- ---- behind a `:`

name_starts : (sort : Sort) → is_name sort ≡ true → starts_name sort ≡ true
name_starts sorts.Url e = refl
name_starts sorts.UrlTemplate e = refl
name_starts sorts.Range e = refl
name_starts _ e = e

-- the name of a pseudo, a `#{` or a second `:`
abbrev pub is_pseudo_begin : Sort → Bool
is_pseudo_begin sort = is_name sort || (same sort sorts.OpenInsert || same sort sorts.Colon)

pub pseudo_unliteral : (sort : Sort) → is_pseudo_begin sort ≡ true → is_literal sort ≡ false
pseudo_unliteral sorts.Digits e = absurd (cc)
pseudo_unliteral sorts.Number e = absurd (cc)
pseudo_unliteral sorts.Quoted e = absurd (cc)
pseudo_unliteral sorts.Unnamed e = absurd (cc)
pseudo_unliteral _ e = refl

pub is_pseudo_so : (list : List Written) (first : Written) (tail : List Written) (unclosed : Bool) → list ≡ first ∷ tail
    → first.spaced ≡ false → is_pseudo_begin first.sort ≡ true → Walks list → is_pseudo (list ++ block unclosed) ≡ true
is_pseudo_so list first tail unclosed is direct begins walks_over =
    both (begins_pseudo (list ++ block unclosed)) _
    (ap (λ (t : List Written). begins_pseudo (t ++ block unclosed)) is
    ∙ both (not first.spaced) _ (ap not direct) (go (which (is_name first.sort) _ begins)))
    (ap begins_block (walks_over 0 (block unclosed)) ∙ ends unclosed)
  where
    go : (is_name first.sort ≡ true) ⊎ ((same first.sort sorts.OpenInsert || same first.sort sorts.Colon) ≡ true)
        → (starts_name first.sort || (is_insert first.sort || same first.sort sorts.Colon)) ≡ true
    go (inl n) = or_first (starts_name first.sort) _ (name_starts first.sort n)
    go (inr c) = or_second (starts_name first.sort) _ c

    ends : (u : Bool) → begins_block (walked walks.Sign 0 (block u)) ≡ true
    ends true = refl
    ends false = refl
