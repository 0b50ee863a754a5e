-- Statements stay statements where each token is given its end.
use Rattle.std.proofs.Common.{◌≡◌, ℕ, ◌<◌, Bool, true, false, ◌&&◌, List, [], ◌∷◌, ◌++◌, refl, sym, subst, ◌∙◌, ap, Option, Some, None, Result, Ok, Err}
use Rattle.std.specs.Prelude.{◌==◌, if◌then◌else◌, IfOk}
use Rattle.std.specs.List.{AllByRecursion}
use Rattle.sw_tokens.specs.declared.token.TokenKind.{TokenKind}
use Rattle.sw_tokens.specs.declared.token.TokenKind.TheVariants as kinds
use Rattle.sw_tokens.specs.declared.token.Token.{Token}
use Rattle.sw_tokens.specs.Ends.{opens, last_end, reaching, reached}
use Rattle.sw_tokens.proofs.Cuts.{IsText}
use Rattle.sw_parse_layout.specs.declared.laid.Laid.{Laid}
use Rattle.sw_parse_layout.specs.declared.walk.LayoutEnd.{LayoutEnd}
use Rattle.sw_parse_layout.specs.declared.walk.Place.{Place}
use Rattle.sw_parse_layout.specs.Laid.{sign_at}
use Rattle.sw_parse_layout.specs.Layout.{laid_of, told_by, Told}
use Rattle.sw_parse_layout.specs.Laws.{BeginsLine, is_line_sign, IsOwn, FirstAt, is_comment, Own, Statements, none, plain, comment, block}
use Rattle.sw_parse_layout.proofs.Blocked.{laid_statements}

-- the same tokens, with other ends
abbrev pub Alike : List Token → List Token → Type 0
Alike [] [] = Unit {0}
Alike (t ∷ ts) (u ∷ us) = ((ends : List ℕ) × (u ≡ reaching t ends)) × Alike ts us
Alike [] (u ∷ us) = ⊥
Alike (t ∷ ts) [] = ⊥

pub reached_alike : (ts : List Token) → Alike ts (reached ts).list
reached_alike [] = tt
reached_alike (t ∷ ts) = (((reached ts).ends, refl), reached_alike ts)

-- in two parts
data Parts (xs ys : List Token) : List Token → Type 0 where
  parts : (us vs : List Token) → Alike xs us → Alike ys vs → Parts xs ys (us ++ vs)

part : (xs ys ts : List Token) → Alike (xs ++ ys) ts → Parts xs ys ts
part [] ys ts a = parts [] ts tt a
part (x ∷ xs) ys [] a = absurd a
part (x ∷ xs) ys (t ∷ ts) a = go ts (part xs ys ts a.1)
  where
    go : (ts : List Token) → Parts xs ys ts → Parts (x ∷ xs) ys (t ∷ ts)
    go _ (parts us vs b c) = parts (t ∷ us) vs (a.0, b) c

-- a sign of the lines keeps its place
data Signed (kind : TokenKind) (at : ℕ) (ys : List Token) : List Token → Type 0 where
  signed : (vs : List Token) → Alike ys vs → Signed kind at ys (sign_at kind at ∷ vs)

signs : (kind : TokenKind) (at : ℕ) (ys ts : List Token) → opens kind ≡ false → Alike (sign_at kind at ∷ ys) ts
    → Signed kind at ys ts
signs kind at ys [] e a = absurd a
signs kind at ys (t ∷ ts) e a = subst (λ (u : Token). Signed kind at ys (u ∷ ts)) (sym (a.0.1 ∙ same (opens kind) e)) (signed ts a.1)
  where
    same : (o : Bool) → o ≡ false
        → (let u : Token = record { kind = kind; from = at; to = if o then last_end a.0.0 at else at; spaced = true } in
        u) ≡ sign_at kind at
    same true e = absurd (cc)
    same false e = refl

-- each token of a statement stays one
opening_own : (kind : TokenKind) → opens kind ≡ true → is_line_sign kind ≡ false
opening_own kinds.Template e = refl
opening_own kinds.UrlTemplate e = refl
opening_own kinds.CommentTemplate e = refl
opening_own kinds.OpenBrace e = absurd (cc)
opening_own kinds.CloseBrace e = absurd (cc)
opening_own kinds.Semicolon e = absurd (cc)
opening_own _ e = refl

reaching_own : (t : Token) (ends : List ℕ) → IsOwn t → IsOwn (reaching t ends)
reaching_own t ends own = go (opens t.kind) refl
  where
    no_sign : (b c : Bool) → b ≡ false → (b && c) ≡ false
    no_sign true c e = absurd (cc)
    no_sign false c e = refl

    go : (o : Bool) → opens t.kind ≡ o
        → (is_line_sign t.kind && (t.from == (if o then last_end ends t.to else t.to))) ≡ false
    go true e = no_sign (is_line_sign t.kind) (t.from == last_end ends t.to) (opening_own t.kind e)
    go false e = own

module _ (bs : List ℕ) where
  own_alike : (ts us : List Token) → Alike ts us → AllByRecursion IsOwn ts → AllByRecursion IsOwn us
  own_alike [] [] a all = tt
  own_alike [] (u ∷ us) a all = absurd a
  own_alike (t ∷ ts) [] a all = absurd a
  own_alike (t ∷ ts) (u ∷ us) a all =
      (subst IsOwn (sym a.0.1) (reaching_own t a.0.0 all.0), own_alike ts us a.1 all.1)

  first_alike : (at : ℕ) (ts us : List Token) → Alike ts us → FirstAt at ts → FirstAt at us
  first_alike at [] us a f = absurd f
  first_alike at (t ∷ ts) [] a f = absurd a
  first_alike at (t ∷ ts) (u ∷ us) a f =
      (ap (λ (x : Token). x.from) a.0.1 ∙ f.0, subst IsOwn (sym a.0.1) (reaching_own t a.0.0 f.1))

  comment_alike : (ts us : List Token) → Alike ts us → is_comment us ≡ is_comment ts
  comment_alike [] [] a = refl
  comment_alike [] (u ∷ us) a = absurd a
  comment_alike (t ∷ ts) [] a = absurd a
  comment_alike (t ∷ ts) (u ∷ us) a = ap (λ (x : Token). is_comment (x ∷ [])) a.0.1

  own_stays : (depth : ℕ) (ts us : List Token) → Alike ts us → Own bs depth ts → Own bs depth us
  own_stays depth ts us a own = record {
    at = own.at;
    begins = own.begins;
    first = first_alike own.at ts us a own.first;
    each = own_alike ts us a own.each;
  }

  Still : ℕ → List Token → Type 0
  Still depth ts = (us : List Token) → Alike ts us → Statements bs depth us

  plain_alike : (depth : ℕ) (own after : List Token) (end : ℕ) → Own bs depth own → is_comment own ≡ false
      → Still depth after → Still depth (own ++ sign_at kinds.Semicolon end ∷ after)
  unfolding Still
  plain_alike depth own after end mine dark still us a =
      go us (part own (sign_at kinds.Semicolon end ∷ after) us a)
    where
      more : (own2 vs : List Token) → Alike own own2 → Signed kinds.Semicolon end after vs
          → Statements bs depth (own2 ++ vs)
      more own2 _ b (signed after2 c) =
          plain end (own_stays depth own own2 b mine) (comment_alike own own2 b ∙ dark) (still after2 c)

      go : (us : List Token) → Parts own (sign_at kinds.Semicolon end ∷ after) us → Statements bs depth us
      go _ (parts own2 vs b c) = more own2 vs b (signs kinds.Semicolon end after vs refl c)

  comments_alike : (depth : ℕ) (own after : List Token) → Own bs depth own → is_comment own ≡ true
      → Still depth after → Still depth (own ++ after)
  unfolding Still
  comments_alike depth own after mine light still us a = go us (part own after us a)
    where
      go : (us : List Token) → Parts own after us → Statements bs depth us
      go _ (parts own2 after2 b c) =
          comment (own_stays depth own own2 b mine) (comment_alike own own2 b ∙ light) (still after2 c)

  block_alike : (depth deeper : ℕ) (own inner after : List Token) (at end : ℕ) → Own bs depth own → depth < deeper
      → BeginsLine bs deeper at → FirstAt at inner → Still deeper inner → Still depth after
      → Still depth (own ++ sign_at kinds.OpenBrace at ∷ (inner ++ sign_at kinds.CloseBrace end ∷ after))
  unfolding Still
  block_alike depth deeper own inner after at end mine below line head within later us a =
      go us (part own (sign_at kinds.OpenBrace at ∷ (inner ++ sign_at kinds.CloseBrace end ∷ after)) us a)
    where
      closing : (own2 inner2 vs : List Token) → Alike own own2 → Alike inner inner2
          → Signed kinds.CloseBrace end after vs
          → Statements bs depth (own2 ++ sign_at kinds.OpenBrace at ∷ (inner2 ++ vs))
      closing own2 inner2 _ b c (signed after2 d) =
          block at end (own_stays depth own own2 b mine) below line (first_alike at inner inner2 c head) (within inner2
          c) (later after2 d)

      inside : (own2 vs : List Token) → Alike own own2 → Parts inner (sign_at kinds.CloseBrace end ∷ after) vs
          → Statements bs depth (own2 ++ sign_at kinds.OpenBrace at ∷ vs)
      inside own2 _ b (parts inner2 ws c d) =
          closing own2 inner2 ws b c (signs kinds.CloseBrace end after ws refl d)

      opening : (own2 vs : List Token) → Alike own own2
          → Signed kinds.OpenBrace at (inner ++ sign_at kinds.CloseBrace end ∷ after) vs
          → Statements bs depth (own2 ++ vs)
      opening own2 _ b (signed ws c) = inside own2 ws b (part inner (sign_at kinds.CloseBrace end ∷ after) ws c)

      go : (us : List Token) → Parts own (sign_at kinds.OpenBrace at ∷ (inner ++ sign_at kinds.CloseBrace end ∷ after)) us
          → Statements bs depth us
      go _ (parts own2 vs b c) =
          opening own2 vs b (signs kinds.OpenBrace at (inner ++ sign_at kinds.CloseBrace end ∷ after) vs refl c)

  pub statements_alike : (depth : ℕ) (ts : List Token) → Statements bs depth ts → (us : List Token) → Alike ts us
      → Statements bs depth us
  unfolding Still
  statements_alike depth _ none [] a = none
  statements_alike depth _ none (u ∷ us) a = absurd a
  statements_alike depth _ (plain {own = own} {after = after} end mine dark st) us a =
      plain_alike depth own after end mine dark (λ vs b. statements_alike depth after st vs b) us a
  statements_alike depth _ (comment {own = own} {after = after} mine light st) us a =
      comments_alike depth own after mine light (λ vs b. statements_alike depth after st vs b) us a
  statements_alike depth _ (block {deeper = d} {own = own} {inner = inner} {after = after} at end mine below line head st more) us a =
      block_alike depth d own inner after at end mine below line head (λ vs b. statements_alike d inner st vs b) (λ vs b.
      statements_alike depth after more vs b) us a

-- the tokens of a text are statements
pub told_statements : (bs : List ℕ) (text : IsText bs) (l : Laid) (ts : List Token) (r : Result (List Token) LayoutEnd)
    → laid_of bs ≡ Ok l → ts ≡ (reached l.tokens).list → Told r (told_by ts l.refused)
    → IfOk r (λ us. Statements bs 0 us)
told_statements bs text l ts r e is told = go l.refused refl r told
  where
    all : l.refused ≡ None → Statements bs 0 ts
    all fine =
        subst (Statements bs 0) (sym is) (statements_alike bs 0 l.tokens (laid_statements bs text l e fine)
        (reached l.tokens).list (reached_alike l.tokens))

    given : Result (List Token) Place → List Token
    given (Ok h) = h
    given (Err k) = ts

    go : (o : Option ℕ) → l.refused ≡ o → (r : Result (List Token) LayoutEnd) → Told r (told_by ts o)
        → IfOk r (λ us. Statements bs 0 us)
    go None f (Ok us) told = subst (Statements bs 0) (ap given told) (all f)
    go (Some k) f (Ok us) told = absurd (cc)
    go o f (Err end) told = tt
