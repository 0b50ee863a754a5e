-- Tokens from which the walk comes back pass the test of lines, where lines can hold them one by one.
use Rattle.std.proofs.Common.{◌≡◌, ℕ, zero, suc, Bool, true, false, not, ◌&&◌, ◌||◌, if◌then◌else◌, List, [], ◌∷◌, length, Some, None, refl, sym, ◌∙◌, ap, arith}
use Rattle.std.specs.Prelude.{◌==◌}
use Rattle.std.proofs.lemmas.Bool.Decides.{nat_tests}
use Rattle.sw_text_scan.proofs.Bounds.{if_true, if_false, and_left, and_right}
use Rattle.sw_tokens.specs.declared.pieces.Before.{Before}
use Rattle.sw_tokens.specs.declared.pieces.Change.{Change}
use Rattle.sw_tokens.specs.declared.pieces.Change.TheVariants as changes
use Rattle.sw_tokens.specs.declared.skips.Inside.{Inside}
use Rattle.sw_tokens.specs.declared.skips.Inside.TheVariants as insides
use Rattle.sw_tokens.specs.declared.token.TokenKind.{TokenKind}
use Rattle.sw_tokens.specs.declared.token.TokenKind.TheVariants as kinds
use Rattle.sw_tokens.specs.Tokens.{before_of, is_spaced, is_code}
use Rattle.sw_tokens.specs.Pieces.{in_interpolation}
use Rattle.sw_parse_layout.specs.declared.sorts.Sort.{Sort}
use Rattle.sw_parse_layout.specs.declared.sorts.Sort.TheVariants as sorts
use Rattle.sw_parse_layout.specs.declared.state.Bracket.{Bracket}
use Rattle.sw_parse_layout.specs.Sorts.{selector_by, first_sort, goes_on, is_interpolation, is_dollar, is_pseudo, behind_word, behind_dashed, is_dot, sorted}
use Rattle.sw_parse_layout.specs.Pieces.{bracketed, is_refused_sign}
use Rattle.sw_parse_layout.specs.Steps as steps
use Rattle.sw_convert_spelling.specs.Spelt.{Spelt, opened}
use Rattle.sw_convert_spelling.proofs.Choices.{left_no, right_no}
use Rattle.sw_convert_laid.specs.Heads.{Told, is_comment, opens_comment}
use Rattle.sw_convert_laid.specs.Held.{names_member, has_none}
use Rattle.sw_convert_heads_laid.specs.Marks.{OpensInsert, kind_mark, is_noted}
use Rattle.sw_convert_heads_laid.specs.Holds.{is_line_sign, is_comma}
use Rattle.sw_convert_heads_laid.proofs.Fits.{is_deep, leaves, opens_insert, pops, keeps, is_text, fits}
use Rattle.sw_convert_heads_laid.proofs.Walk.{at, step}

-- ---- what the layout tells of a statement's form

abbrev pub is_fresh : Sort → Bool
is_fresh sorts.Fresh = true
is_fresh _ = false

choose : (P : Sort → Type 0) (t : Bool) (x y : Sort) → P x → P y → P (if t then x else y)
choose P true x y e f = e
choose P false x y e f = f

-- behind a token the statement isn't fresh, and behind one that is no comma it stands at none
selector_begun : (kind : TokenKind) → is_fresh (selector_by kind) ≡ false
selector_begun kinds.Comma = refl
selector_begun _ = refl

word_begun : (kind : TokenKind) → is_fresh (behind_word kind) ≡ false
word_begun kinds.Colon = refl
word_begun kind = selector_begun kind

dashed_begun : (kind : TokenKind) → is_fresh (behind_dashed kind) ≡ false
dashed_begun kinds.Colon = refl
dashed_begun kind = selector_begun kind

first_begun : (kind : TokenKind) → is_fresh (first_sort kind) ≡ false
first_begun kinds.Comma = refl
first_begun _ = refl

pub never_fresh : (sort : Sort) (kind : TokenKind) (spaced : Bool) → is_fresh (sorted sort kind spaced) ≡ false
unfolding sorted
never_fresh sorts.Fresh kind spaced = first_begun kind
never_fresh sorts.Minus kind spaced =
    choose (λ (x : Sort). is_fresh x ≡ false) (is_interpolation kind && not spaced) _ _ refl (selector_begun kind)
never_fresh sorts.Named kind spaced =
    choose (λ (x : Sort). is_fresh x ≡ false) (is_dot kind && not spaced) _ _ refl
    (choose (λ (x : Sort). is_fresh x ≡ false) (goes_on kind && not spaced) _ _ refl (word_begun kind))
never_fresh sorts.Dotted kind spaced =
    choose (λ (x : Sort). is_fresh x ≡ false) (is_dollar kind && not spaced) _ _ refl (selector_begun kind)
never_fresh sorts.Word kind spaced =
    choose (λ (x : Sort). is_fresh x ≡ false) (goes_on kind && not spaced) _ _ refl (word_begun kind)
never_fresh sorts.Dashed kind spaced =
    choose (λ (x : Sort). is_fresh x ≡ false) (goes_on kind && not spaced) _ _ refl (dashed_begun kind)
never_fresh sorts.Colon kind spaced = choose (λ (x : Sort). is_fresh x ≡ false) (is_pseudo kind && not spaced) _ _ refl refl
never_fresh sorts.Selector kind spaced = selector_begun kind
never_fresh sorts.Comma kind spaced = selector_begun kind
never_fresh sorts.Other kind spaced = refl

selector_no : (kind : TokenKind) → is_comma kind ≡ false → steps.is_comma (selector_by kind) ≡ false
selector_no kinds.Comma c = absurd (cc)
selector_no _ c = refl

word_no : (kind : TokenKind) → is_comma kind ≡ false → steps.is_comma (behind_word kind) ≡ false
word_no kinds.Comma c = absurd (cc)
word_no _ c = refl

dashed_no : (kind : TokenKind) → is_comma kind ≡ false → steps.is_comma (behind_dashed kind) ≡ false
dashed_no kinds.Comma c = absurd (cc)
dashed_no _ c = refl

first_no : (kind : TokenKind) → is_comma kind ≡ false → steps.is_comma (first_sort kind) ≡ false
first_no kinds.Comma c = absurd (cc)
first_no _ c = refl

pub no_comma : (sort : Sort) (kind : TokenKind) (spaced : Bool) → is_comma kind ≡ false
    → steps.is_comma (sorted sort kind spaced) ≡ false
unfolding sorted
no_comma sorts.Fresh kind spaced c = first_no kind c
no_comma sorts.Minus kind spaced c =
    choose (λ (x : Sort). steps.is_comma x ≡ false) (is_interpolation kind && not spaced) _ _ refl (selector_no kind c)
no_comma sorts.Named kind spaced c =
    choose (λ (x : Sort). steps.is_comma x ≡ false) (is_dot kind && not spaced) _ _ refl
    (choose (λ (x : Sort). steps.is_comma x ≡ false) (goes_on kind && not spaced) _ _ refl (word_no kind c))
no_comma sorts.Dotted kind spaced c =
    choose (λ (x : Sort). steps.is_comma x ≡ false) (is_dollar kind && not spaced) _ _ refl (selector_no kind c)
no_comma sorts.Word kind spaced c =
    choose (λ (x : Sort). steps.is_comma x ≡ false) (goes_on kind && not spaced) _ _ refl (word_no kind c)
no_comma sorts.Dashed kind spaced c =
    choose (λ (x : Sort). steps.is_comma x ≡ false) (goes_on kind && not spaced) _ _ refl (dashed_no kind c)
no_comma sorts.Colon kind spaced c =
    choose (λ (x : Sort). steps.is_comma x ≡ false) (is_pseudo kind && not spaced) _ _ refl refl
no_comma sorts.Selector kind spaced c = selector_no kind c
no_comma sorts.Comma kind spaced c = selector_no kind c
no_comma sorts.Other kind spaced c = refl

-- ---- how many `#{}` are open

abbrev pub with_one : Inside → ℕ → ℕ
with_one insides.Interpolation n = suc n
with_one _ n = n

abbrev pub inserts : List Inside → ℕ
inserts [] = 0
inserts (inside ∷ outer) = with_one inside (inserts outer)

abbrev pub is_brace : TokenKind → Bool
is_brace kinds.OpenBrace = true
is_brace kinds.CloseBrace = true
is_brace _ = false

left_so : (inside : Inside) (n : ℕ) → (is_deep inside && not (in_interpolation inside)) ≡ true → with_one inside n ≡ n
left_so insides.Interpolation n e = absurd (cc)
left_so _ n e = refl

-- outside strings, urls and `#{}`
pub ground_count : (change : Change) → leaves insides.Sheet change ≡ true → inserts (opened [] change) ≡ 0
ground_count changes.Keep l = refl
ground_count (changes.Push x) l = left_so x 0 l
ground_count changes.Pop l = refl

pub keep_is : (change : Change) → keeps change ≡ true → change ≡ changes.Keep
keep_is changes.Keep e = refl
keep_is (changes.Push x) e = absurd (cc)
keep_is changes.Pop e = absurd (cc)

pub pop_is : (change : Change) → pops change ≡ true → change ≡ changes.Pop
pop_is changes.Pop e = refl
pop_is changes.Keep e = absurd (cc)
pop_is (changes.Push x) e = absurd (cc)

pub insert_is : (change : Change) → opens_insert change ≡ true → change ≡ changes.Push insides.Interpolation
insert_is (changes.Push insides.Interpolation) e = refl
insert_is changes.Keep e = absurd (cc)
insert_is changes.Pop e = absurd (cc)
insert_is _ e = absurd (cc)

pub ground_next : (custom : Bool) (bs : List Bracket) (kind : TokenKind) (change : Change) → fits insides.Sheet kind change ≡ true
    → (is_brace kind && (not custom && has_none bs)) ≡ false
    → step custom 0 bs (kind_mark kind) ≡ Some (at (inserts (opened [] change)) (bracketed bs (Some kind)))
ground_next custom bs kinds.OpenInterpolation change f b =
    sym (ap (λ (x : Change). Some (at (inserts (opened [] x)) bs)) (insert_is change f))
ground_next custom bs kinds.CloseInterpolation change f b =
    absurd (let no : false ≡ true = sym (right_no (pops change) false refl) ∙ f in cc)
ground_next custom bs kinds.Comma change f b =
    sym (ap (λ (x : Change). Some (at (inserts (opened [] x)) bs)) (keep_is change f))
ground_next custom bs kinds.OpenBrace change f b =
    if_false (not custom && has_none bs) _ _ b ∙ sym (ap (λ (n : ℕ). Some (at n bs)) (ground_count change f))
ground_next custom bs kinds.CloseBrace change f b =
    if_false (not custom && has_none bs) _ _ b ∙ sym (ap (λ (n : ℕ). Some (at n bs)) (ground_count change f))
ground_next custom bs kind change f b =
    sym (ap (λ (n : ℕ). Some (at n (bracketed bs (Some kind)))) (ground_count change f))

-- in strings, urls and `#{}`
inner_plain : (custom : Bool) (n : ℕ) (bs : List Bracket) (kind : TokenKind) → is_text kind ≡ true
    → step custom n bs (kind_mark kind) ≡ Some (at n bs)
inner_plain custom zero bs (kinds.Text text) t = refl
inner_plain custom zero bs kinds.Piece t = refl
inner_plain custom zero bs kinds.TemplateEnd t = refl
inner_plain custom zero bs kinds.UrlEnd t = refl
inner_plain custom zero bs kinds.CommentEnd t = refl
inner_plain custom zero bs _ t = absurd (cc)
inner_plain custom (suc n) bs (kinds.Text text) t = refl
inner_plain custom (suc n) bs kinds.Piece t = refl
inner_plain custom (suc n) bs kinds.TemplateEnd t = refl
inner_plain custom (suc n) bs kinds.UrlEnd t = refl
inner_plain custom (suc n) bs kinds.CommentEnd t = refl
inner_plain custom (suc n) bs _ t = absurd (cc)

-- the count stays where no `#{}` is opened or closed
pub count_stays : (inside : Inside) (outer : List Inside) (change : Change) → leaves inside change ≡ true
    → inserts (opened (inside ∷ outer) change) ≡ inserts (inside ∷ outer)
count_stays inside outer changes.Keep l = refl
count_stays inside outer (changes.Push x) l = left_so x (with_one inside (inserts outer)) l
count_stays insides.Interpolation outer changes.Pop l = absurd (cc)
count_stays _ outer changes.Pop l = refl

insert_step : (custom : Bool) (n : ℕ) (bs : List Bracket) → step custom n bs OpensInsert ≡ Some (at (suc n) bs)
insert_step custom zero bs = refl
insert_step custom (suc n) bs = refl

in_insert : (custom : Bool) (bs : List Bracket) (outer : List Inside) (kind : TokenKind) (change : Change)
    → fits insides.Interpolation kind change ≡ true
    → step custom (suc (inserts outer)) bs (kind_mark kind)
    ≡ Some (at (inserts (opened (insides.Interpolation ∷ outer) change)) bs)
in_insert custom bs outer kinds.OpenInterpolation change f =
    sym (ap (λ (x : Change). Some (at (inserts (opened (insides.Interpolation ∷ outer) x)) bs)) (insert_is change f))
in_insert custom bs outer kinds.CloseInterpolation change f =
    sym (ap (λ (x : Change). Some (at (inserts (opened (insides.Interpolation ∷ outer) x)) bs)) (pop_is change (and_left (pops change) _ f)))
in_insert custom bs outer kinds.Comma change f =
    sym (ap (λ (x : Change). Some (at (inserts (opened (insides.Interpolation ∷ outer) x)) bs)) (keep_is change f))
in_insert custom bs outer kind change f =
    sym (ap (λ (n : ℕ). Some (at n bs)) (count_stays insides.Interpolation outer change f))

second_of : (a b : Bool) → a ≡ false → (a || b) ≡ true → b ≡ true
second_of true b e f = absurd (cc)
second_of false b e f = f

in_text : (custom : Bool) (bs : List Bracket) (inside : Inside) (outer : List Inside) (kind : TokenKind) (change : Change)
    → is_code inside ≡ false → in_interpolation inside ≡ false → fits inside kind change ≡ true
    → step custom (inserts (inside ∷ outer)) bs (kind_mark kind) ≡ Some (at (inserts (opened (inside ∷ outer) change)) bs)
in_text custom bs inside outer kinds.OpenInterpolation change c o f =
    insert_step custom (inserts (inside ∷ outer)) bs
    ∙ sym (ap (λ (x : Change). Some (at (inserts (opened (inside ∷ outer) x)) bs)) (insert_is change f))
in_text custom bs inside outer kinds.CloseInterpolation change c o f =
    absurd (let wrong : false ≡ true = sym (right_no (pops change) (in_interpolation inside) o) ∙ f in cc)
in_text custom bs inside outer kinds.Comma change c o f =
    absurd (let wrong : false ≡ true = sym (left_no (is_code inside) (keeps change) c) ∙ f in cc)
in_text custom bs inside outer kind change c o f =
    inner_plain custom (inserts (inside ∷ outer)) bs kind
    (second_of (is_code inside) (is_text kind) c (and_left (is_code inside || is_text kind) _ f))
    ∙ sym (ap (λ (n : ℕ). Some (at n bs)) (count_stays inside outer change (and_right (is_code inside || is_text kind) _ f)))

pub inner_next : (custom : Bool) (bs : List Bracket) (inside : Inside) (outer : List Inside) (kind : TokenKind) (change : Change)
    → is_deep inside ≡ true → fits inside kind change ≡ true
    → step custom (inserts (inside ∷ outer)) bs (kind_mark kind) ≡ Some (at (inserts (opened (inside ∷ outer) change)) bs)
inner_next custom bs insides.Sheet outer kind change d f = absurd (cc)
inner_next custom bs insides.Css outer kind change d f = absurd (cc)
inner_next custom bs insides.Interpolation outer kind change d f = in_insert custom bs outer kind change f
inner_next custom bs (insides.Quotes q) outer kind change d f = in_text custom bs (insides.Quotes q) outer kind change refl refl f
inner_next custom bs insides.Url outer kind change d f = in_text custom bs insides.Url outer kind change refl refl f
inner_next custom bs insides.UrlInside outer kind change d f = in_text custom bs insides.UrlInside outer kind change refl refl f
inner_next custom bs insides.Comment outer kind change d f = in_text custom bs insides.Comment outer kind change refl refl f

-- ---- a token outside strings, urls and `#{}`

some_length : (bs : List Bracket) → has_none bs ≡ false → (length bs == 0) ≡ false
some_length [] e = absurd (cc)
some_length (b ∷ bs) e = go (length bs)
  where
    go : (n : ℕ) → (suc n == 0) ≡ false
    go n = grind (arith, nat_tests)

pub refused_no : (custom : Bool) (bs : List Bracket) (kind : TokenKind) → is_line_sign custom kind ≡ false
    → (is_brace kind && (not custom && has_none bs)) ≡ false → is_refused_sign bs (Some kind) ≡ false
refused_no custom bs kinds.Semicolon e b = absurd (cc)
refused_no true bs kinds.OpenBrace e b = absurd (cc)
refused_no true bs kinds.CloseBrace e b = absurd (cc)
refused_no false bs kinds.OpenBrace e b = some_length bs b
refused_no false bs kinds.CloseBrace e b = some_length bs b
refused_no custom bs _ e b = refl

pub brace_none : (custom : Bool) (bs : List Bracket) (kind : TokenKind) → (is_brace kind && (not custom && has_none bs)) ≡ true
    → step custom 0 bs (kind_mark kind) ≡ None
brace_none custom bs kinds.OpenBrace e = if_true (not custom && has_none bs) _ _ e
brace_none custom bs kinds.CloseBrace e = if_true (not custom && has_none bs) _ _ e
brace_none custom bs _ e = absurd (cc)

not_member : (sort : Sort) (kind : TokenKind) → is_fresh sort ≡ false → names_member sort kind ≡ false
not_member sorts.Fresh kind e = absurd (cc)
not_member _ kind e = refl

pub opens_no : (kind : TokenKind) → (is_noted (kind_mark kind) ≡ true → is_comment kind ≡ true) → opens_comment kind ≡ false
opens_no kinds.CommentTemplate s = absurd (let wrong : false ≡ true = s refl in cc)
opens_no _ s = refl

pub comment_fine : (kind : TokenKind) (b : Bool) → (is_noted (kind_mark kind) ≡ true → b ≡ true) → (not (is_comment kind) || b) ≡ true
comment_fine kinds.Comment b s = s refl
comment_fine _ b s = refl

pub comment_is : (kind : TokenKind) → is_comment kind ≡ true → kind ≡ kinds.Comment
comment_is kinds.Comment e = refl
comment_is _ e = absurd (cc)

pub no_of : (a b : Bool) → not (a || b) ≡ true → (a ≡ false) × (b ≡ false)
no_of true b e = absurd (cc)
no_of false true e = absurd (cc)
no_of false false e = (refl, refl)

abbrev pub is_ground : List Inside → Bool
is_ground [] = true
is_ground (inside ∷ outer) = false

-- what holds before each token: in strings, urls and `#{}` a statement has begun, and stands at no comma; and where the
-- last token may end a line, it does
pub record Settled (stack : List Inside) (sort : Sort) (before : Before) (last : Bool) : Type 0 where
  pub begun : is_ground stack ≡ false → is_fresh sort ≡ false
  pub inner : is_ground stack ≡ false → steps.is_comma sort ≡ false
  pub ended : last ≡ true → (steps.is_comma sort ≡ false) × (is_spaced before ≡ false)

-- the next token isn't named as a member, and a comment doesn't begin the statement
abbrev pub Opening : Sort → List Spelt → Type 0
Opening sort [] = Unit {0}
Opening sort (spelt ∷ list) = (names_member sort spelt.kind ≡ false) × (is_fresh sort ≡ true → is_comment spelt.kind ≡ false)

pub opening_of : (sort : Sort) (list : List Spelt) → is_fresh sort ≡ false → Opening sort list
opening_of sort [] e = tt
opening_of sort (spelt ∷ list) e =
    (not_member sort spelt.kind e, λ f. absurd (let wrong : true ≡ false = sym f ∙ e in cc))

abbrev pub told : List Inside → List Bracket → Sort → Told
told stack bs sort = record { stack = stack; brackets = bs; sort = sort }

-- a line may end behind a token of a kind
abbrev pub ends_after : TokenKind → Bool
ends_after kind = not (is_comma kind || is_spaced (before_of (Some kind)))
