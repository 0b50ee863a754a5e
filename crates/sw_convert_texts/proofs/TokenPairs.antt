-- Tokens one behind the other in a sheet that was read: what stands directly behind one begins where that one ends.
use Rattle.std.proofs.Common.{◌≡◌, ◌⊎◌, ℕ, zero, suc, ◌-◌, Bool, true, false, if◌then◌else◌, nat_lt, List, [], ◌∷◌, ◌++◌, length, take, drop, Option, Some, None, Result, Ok, Err, inl, inr, refl, sym, ◌∙◌, ap, subst, arith}
use Rattle.std.specs.Prelude.{◌==◌, slice_get, slice_range, unwrap_or, bytes_eq, codes}
use Rattle.sw_text.specs.Places.{mark_length}
use Rattle.sw_text_scan.proofs.Bounds.{if_true, if_false}
use Rattle.sw_tokens.specs.declared.pieces.Before.{Before}
use Rattle.sw_tokens.specs.declared.pieces.Before.TheVariants as befores
use Rattle.sw_tokens.specs.declared.pieces.Piece.{Piece}
use Rattle.sw_tokens.specs.declared.scan.Opened.{Opened}
use Rattle.sw_tokens.specs.declared.token.Syntax.TheVariants as syntaxes
use Rattle.sw_tokens.specs.declared.token.Token.{Token}
use Rattle.sw_tokens.specs.declared.token.TokenKind.{TokenKind}
use Rattle.sw_tokens.specs.declared.token.TokenKind.TheVariants as kinds
use Rattle.sw_tokens.specs.Ends.{opens, reaching, reached, tokens_by, tokens_in, tokens_of}
use Rattle.sw_tokens.specs.Pieces.{piece}
use Rattle.sw_tokens.specs.Tokens.{top, changed, before_of, last_start, kept_by, kept, behind, finished, walk, rest, pieces_of, is_spaced}
use Rattle.sw_parse_terminals.specs.Urls.{has_namespace}
use Rattle.sw_parse_lexemes.specs.declared.plain.Plain.{Plain}
use Rattle.sw_parse_lexemes.specs.declared.sort.Sort.{Sort}
use Rattle.sw_parse_lexemes.specs.declared.sort.Sort.TheVariants as sorts
use Rattle.sw_parse_lexemes.specs.Classes.{is_name}
use Rattle.sw_parse_lexemes.specs.Plains.{end_by, holds_slash, has_slash, plain_of, plains_from}
use Rattle.sw_parse_lexemes.specs.Sorts.{sort_of}
use Rattle.sw_parse_lexemes.specs.Words.{at_one, at_three, at_four, at_five, at_six, at_seven, at_eight, at_nine, at_sort}
use Rattle.sw_convert_tokens.proofs.Words.{name_yes}
use Rattle.sw_convert_texts.specs.RawKinds.{is_at}

-- each of a list and the next
abbrev pub Next : {A : Type 0} → (A → A → Type 0) → A → List A → Type 0
Next R x [] = Unit {0}
Next R x (y ∷ rest) = R x y

abbrev pub Pairs : {A : Type 0} → (A → A → Type 0) → List A → Type 0
Pairs R [] = Unit {0}
Pairs R (x ∷ xs) = Next R x xs × Pairs R xs

next_at : {A : Type 0} (R : A → A → Type 0) (x y : A) (xs : List A) → Next R x xs → slice_get xs 0 ≡ Some y → R x y
next_at R x y [] next e = absurd (cc)
next_at R x y (z ∷ xs) next e = subst (R x) (ap (λ (o : Option _). unwrap_or o z) e) next

pub pairs_at : {A : Type 0} (R : A → A → Type 0) (xs : List A) (n : ℕ) (x y : A) → Pairs R xs → slice_get xs n ≡ Some x
    → slice_get xs (suc n) ≡ Some y → R x y
pairs_at R [] n x y pairs e f = absurd (cc)
pairs_at R (z ∷ xs) zero x y (next, pairs) e f =
    subst (λ w. R w y) (ap (λ (o : Option _). unwrap_or o z) e) (next_at R z y xs next f)
pairs_at R (z ∷ xs) (suc n) x y (next, pairs) e f = pairs_at R xs n x y pairs e f

-- ---- tokens

record Behind (t u : Token) : Type 0 where
  white : is_spaced (before_of (Some t.kind)) ≡ true → u.spaced ≡ true
  direct : opens t.kind ≡ false → u.spaced ≡ false → t.to ≡ u.from

-- the first token from a place on stands there, or white space before it
abbrev Head : Before → ℕ → List Token → Type 0
Head before at [] = Unit {0}
Head before at (t ∷ ts) = (t.spaced ≡ true) ⊎ ((t.from ≡ at) × (t.spaced ≡ is_spaced before))

white_head : (before : Before) (at to : ℕ) (ts : List Token) → Head befores.White to ts → Head before at ts
white_head before at to [] h = tt
white_head before at to (t ∷ ts) (inl s) = inl s
white_head before at to (t ∷ ts) (inr (from, spaced)) = inl spaced

next_token : (t : Token) (ts : List Token) → Head (before_of (Some t.kind)) t.to ts → Next Behind t ts
next_token t [] h = tt
next_token t (u ∷ ts) (inl s) =
    record { white = λ w. s; direct = λ o f. absurd (let no : true ≡ false = sym s ∙ f in cc) }
next_token t (u ∷ ts) (inr (from, spaced)) = record { white = λ w. spaced ∙ w; direct = λ o f. sym from }

kept_pairs : (token : Option TokenKind) (at to : ℕ) (before : Before) (ts : List Token) → Head (before_of token) to ts
    → Pairs Behind ts
    → Head before at (kept_by token at to before ++ ts) × Pairs Behind (kept_by token at to before ++ ts)
kept_pairs None at to before ts h p = (white_head before at to ts h, p)
kept_pairs (Some kind) at to before ts h p = (
  inr (refl, refl),
  (next_token (record { kind = kind; from = at; to = to; spaced = is_spaced before }) ts h, p),
)

abbrev listed_of : List Token → Result (List Token) ℕ → List Token
listed_of default (Ok list) = list
listed_of default (Err k) = default

module _ (bs : List ℕ) where
  abbrev Told : Before → ℕ → List Token → Type 0
  Told before at ts = Head before at ts × Pairs Behind ts

  none_left : (os : List Opened) (before : Before) (at : ℕ) (ts : List Token) → finished os ≡ Ok ts → Told before at ts
  none_left [] before at ts e = subst (Told before at) (ap (listed_of []) e) (tt, tt)
  none_left (o ∷ os) before at ts e = absurd (cc)

  abbrev Further : ℕ → Type 0
  Further n =
      (os : List Opened) (before : Before) (at : ℕ) (ts : List Token) → walk syntaxes.Scss bs n os before at ≡ Ok ts
      → Told before at ts

  module _ (n : ℕ) (again : Further n) (os : List Opened) (before : Before) (at : ℕ) (ts : List Token) where
    further : (p : Piece) → (r : Result (List Token) ℕ)
        → walk syntaxes.Scss bs n (changed os p.change at) (before_of p.token) p.to ≡ r
        → behind (kept p at before) r ≡ Ok ts → Told before at ts
    further p (Err k) w f = absurd (cc)
    further p (Ok us) w f =
        let (h, q) = again (changed os p.change at) (before_of p.token) p.to us w in
        subst (Told before at) (ap (listed_of []) f) (kept_pairs p.token at p.to before us h q)

    abbrev on : Option Piece → Result (List Token) ℕ
    on o = elim o as (λ _. Result (List Token) ℕ) [
      | None ↦ Err (last_start os at)
      | Some p ↦ behind (kept p at before) (walk syntaxes.Scss bs n (changed os p.change at) (before_of p.token) p.to)
    ]

    found : (o : Option Piece) → on o ≡ Ok ts → Told before at ts
    found None f = absurd (cc)
    found (Some p) f =
        further p (walk syntaxes.Scss bs n (changed os p.change at) (before_of p.token) p.to) refl f

    here : (b : Bool) → (if b then on (piece bs (top syntaxes.Scss os) before at) else finished os) ≡ Ok ts
        → Told before at ts
    here true f = found (piece bs (top syntaxes.Scss os) before at) f
    here false f = none_left os before at ts f

  walked : (n : ℕ) → Further n
  walked zero os before at ts e = none_left os before at ts e
  walked (suc n) os before at ts e = here n (walked n) os before at ts (nat_lt at (length bs)) e

next_reached : (t : Token) (ends : List ℕ) (ts : List Token) → Next Behind t ts
    → Next Behind (reaching t ends) (reached ts).list
next_reached t ends [] n = tt
next_reached t ends (u ∷ ts) n =
    record { white = n.white; direct = λ o f. if_false (opens t.kind) _ _ o ∙ n.direct o f }

all_reached : (ts : List Token) → Pairs Behind ts → Pairs Behind (reached ts).list
all_reached [] p = tt
all_reached (t ∷ ts) (n, p) = (next_reached t (reached ts).ends ts n, all_reached ts p)

all_tokens : (bs : List ℕ) (list : List Token) → tokens_of bs ≡ Ok list → Pairs Behind list
unfolding tokens_in pieces_of rest
all_tokens bs list e = go (pieces_of syntaxes.Scss bs) refl e
  where
    go : (r : Result (List Token) ℕ) → pieces_of syntaxes.Scss bs ≡ r → tokens_by r ≡ Ok list → Pairs Behind list
    go (Err k) p f = absurd (cc)
    go (Ok ts) p f =
        subst (Pairs Behind) (ap (listed_of []) f)
        (all_reached ts (walked bs (suc (length bs - mark_length bs)) [] befores.Other (mark_length bs) ts p).1)

-- ---- as the pass over tokens has them

-- comments
abbrev pub ends_comment : Sort → Bool
ends_comment sorts.Comment = true
ends_comment sorts.CommentEnd = true
ends_comment _ = false

name_no : (sort : Sort) → is_name sort ≡ true → ends_comment sort ≡ false
name_no sorts.Comment n = absurd (cc)
name_no sorts.CommentEnd n = absurd (cc)
name_no _ n = refl

at_no : (sort : Sort) → is_at sort ≡ true → ends_comment sort ≡ false
at_no sorts.Comment n = absurd (cc)
at_no sorts.CommentEnd n = absurd (cc)
at_no _ n = refl

pick_at : (t : Bool) (x y : Sort) → is_at x ≡ true → is_at y ≡ true → is_at (if t then x else y) ≡ true
pick_at true x y e f = e
pick_at false x y e f = f

pub at_yes : (text : List ℕ) → is_at (at_sort text) ≡ true
at_yes text =
    (pick_at (length text == 1) (at_one text) _ (pick_at (bytes_eq text (codes "=")) sorts.AtMixin _ refl (pick_at (bytes_eq text (codes "+")) sorts.AtInclude _ refl refl))
    (pick_at (length text == 3) (at_three text) _ (pick_at (bytes_eq text (codes "@if")) sorts.AtIf _ refl refl)
    (pick_at (length text == 4) (at_four text) _ (pick_at (bytes_eq text (codes "@use")) sorts.AtUse _ refl (pick_at (bytes_eq text (codes "@for")) sorts.AtFor _ refl refl))
    (pick_at (length text == 5) (at_five text) _ (pick_at (bytes_eq text (codes "@warn")) sorts.AtWarn _ refl (pick_at (bytes_eq text (codes "@else")) sorts.AtElse _ refl (pick_at (bytes_eq text (codes "@each")) sorts.AtEach _ refl refl)))
    (pick_at (length text == 6) (at_six text) _ (pick_at (bytes_eq text (codes "@mixin")) sorts.AtMixin _ refl (pick_at (bytes_eq text (codes "@debug")) sorts.AtDebug _ refl (pick_at (bytes_eq text (codes "@error")) sorts.AtError _ refl (pick_at (bytes_eq text (codes "@while")) sorts.AtWhile _ refl (pick_at (bytes_eq text (codes "@media")) sorts.AtMedia _ refl refl)))))
    (pick_at (length text == 7) (at_seven text) _ (pick_at (bytes_eq text (codes "@return")) sorts.AtReturn _ refl (pick_at (bytes_eq text (codes "@elseif")) sorts.AtElseIf _ refl (pick_at (bytes_eq text (codes "@import")) sorts.AtImport _ refl (pick_at (bytes_eq text (codes "@extend")) sorts.AtExtend _ refl refl))))
    (pick_at (length text == 8) (at_eight text) _ (pick_at (bytes_eq text (codes "@forward")) sorts.AtForward _ refl (pick_at (bytes_eq text (codes "@include")) sorts.AtInclude _ refl (pick_at (bytes_eq text (codes "@content")) sorts.AtContent _ refl (pick_at (bytes_eq text (codes "@at-root")) sorts.AtRoot _ refl (pick_at (bytes_eq text (codes "@charset")) sorts.AtCharset _ refl refl)))))
    (pick_at (length text == 9) (at_nine text) _ (pick_at (bytes_eq text (codes "@function")) sorts.AtFunction _ refl (pick_at (bytes_eq text (codes "@supports")) sorts.AtSupports _ refl refl))
    refl))))))))

quoted_no : (t : Bool) → ends_comment (if t then sorts.Quoted else sorts.Unnamed) ≡ false
quoted_no true = refl
quoted_no false = refl

white_kind : (kind : TokenKind) (text : List ℕ) → ends_comment (sort_of kind text) ≡ true
    → is_spaced (before_of (Some kind)) ≡ true
white_kind kinds.Comment text e = refl
white_kind kinds.CommentEnd text e = refl
white_kind kinds.Word text e =
    absurd (let no : true ≡ false = sym e ∙ name_no (sort_of kinds.Word text) (name_yes kinds.Word text refl) in cc)
white_kind kinds.Name text e =
    absurd (let no : true ≡ false = sym e ∙ name_no (sort_of kinds.Name text) (name_yes kinds.Name text refl) in cc)
white_kind kinds.AtName text e =
    absurd (let no : true ≡ false = sym e ∙ at_no (at_sort text) (at_yes text) in cc)
white_kind (kinds.Quoted told) text e =
    absurd (let no : true ≡ false = sym e ∙ quoted_no (has_namespace told) in cc)
white_kind _ text e = absurd (cc)

pub record PlainBehind (p q : Plain) : Type 0 where
  pub white : ends_comment p.sort ≡ true → q.spaced ≡ true
  pub direct : q.spaced ≡ false → (p.to ≡ q.from) × (q.silent ≡ false)

-- between a place and itself nothing stands
nothing_silent : (bs : List ℕ) (from to : ℕ) → from ≡ to → has_slash bs from to ≡ false
unfolding has_slash
nothing_silent bs from to e =
    ap (λ (n : ℕ). holds_slash (slice_range bs n to)) e
    ∙ ap (λ (n : ℕ). holds_slash (take n (drop to bs))) (let z : to - to ≡ 0 = omega arith in z)

touching : (t u : Token) → Behind t u → u.spaced ≡ false → end_by t (Some u) ≡ u.from
touching t u b f = go (opens t.kind) refl
  where
    go : (o : Bool) → opens t.kind ≡ o → (if opens t.kind then u.from else t.to) ≡ u.from
    go true o = if_true (opens t.kind) u.from t.to o
    go false o = if_false (opens t.kind) u.from t.to o ∙ b.direct o f

next_plain : (bs : List ℕ) (gap : ℕ) (t : Token) (list : List Token) → Next Behind t list
    → Next PlainBehind (plain_of bs gap t (end_by t (slice_get list 0)))
    (plains_from bs (end_by t (slice_get list 0)) list)
unfolding plain_of
next_plain bs gap t [] n = tt
next_plain bs gap t (u ∷ list) n = record {
  white = λ e. n.white (white_kind t.kind (slice_range bs t.from t.to) e);
  direct = λ f. (touching t u n f, nothing_silent bs (end_by t (Some u)) u.from (touching t u n f));
}

all_plains : (bs : List ℕ) (gap : ℕ) (list : List Token) → Pairs Behind list
    → Pairs PlainBehind (plains_from bs gap list)
all_plains bs gap [] p = tt
all_plains bs gap (t ∷ list) (n, p) =
    (next_plain bs gap t list n, all_plains bs (end_by t (slice_get list 0)) list p)

pub all_behind : (bs : List ℕ) (list : List Token) → tokens_of bs ≡ Ok list → Pairs PlainBehind (plains_from bs 0 list)
all_behind bs list e = all_plains bs 0 list (all_tokens bs list e)
