-- White space and comments alone stand between the tokens of a sheet that was read, and no `/` but in these.
use Rattle.std.proofs.Common.{◌≡◌, ◌⊎◌, ◌≤◌, ◌<◌, ℕ, zero, suc, ◌+◌, ◌-◌, Bool, true, false, not, ◌&&◌, ◌||◌, if◌then◌else◌, nat_lt, List, [], ◌∷◌, ◌++◌, length, take, drop, Option, Some, None, Result, Ok, Err, is_some, inl, inr, refl, sym, ◌∙◌, ap, subst, arith}
use Rattle.std.specs.Prelude.{◌==◌, slice_get, slice_range, unwrap_or}
use Rattle.std.specs.List.{list_all}
use Rattle.std.proofs.lemmas.Bool.Decides.{nat_tests}
use Rattle.std.proofs.lemmas.List.Folds.{list_all-append, list_any-append}
use Rattle.sw_text.specs.Places.{mark_length}
use Rattle.sw_text_scan.specs.declared.runs.Class.{Class}
use Rattle.sw_text_scan.specs.declared.runs.Class.TheVariants as classes
use Rattle.sw_text_scan.specs.Bytes.{sign, byte, is_white, is_quote, opens_at, begins_silent, begins_loud, ends_loud}
use Rattle.sw_text_scan.specs.Runs.{run_end}
use Rattle.sw_text_scan.specs.Words.{begins_number, begins_range, begins_url, url_close}
use Rattle.sw_text_scan.proofs.Bounds.{if_true, if_false, and_left, or_left, or_right, run_step, run_stop, run_past}
use Rattle.sw_tokens.specs.declared.pieces.Before.{Before}
use Rattle.sw_tokens.specs.declared.pieces.Before.TheVariants as befores
use Rattle.sw_tokens.specs.declared.pieces.Change.{Change}
use Rattle.sw_tokens.specs.declared.pieces.Change.TheVariants as changes
use Rattle.sw_tokens.specs.declared.pieces.Piece.{Piece}
use Rattle.sw_tokens.specs.declared.scan.Opened.{Opened}
use Rattle.sw_tokens.specs.declared.skips.Inside.{Inside}
use Rattle.sw_tokens.specs.declared.skips.Inside.TheVariants as insides
use Rattle.sw_tokens.specs.declared.token.Syntax.TheVariants as syntaxes
use Rattle.sw_tokens.specs.declared.token.Token.{Token}
use Rattle.sw_tokens.specs.declared.token.TokenKind.{TokenKind}
use Rattle.sw_tokens.specs.declared.token.TokenKind.TheVariants as kinds
use Rattle.sw_tokens.specs.Ends.{opens, reaching, reached, tokens_by, tokens_in, tokens_of}
use Rattle.sw_tokens.specs.Pieces.{made, made_white, piece, text_piece, quote_piece, is_hex_form, number_piece, url_class, url_inside, opens_url, url_piece, after_dollar, after_hash, word_piece, comment_piece, loud_piece, in_interpolation, code_piece, css_quote, css_loud, css_piece}
use Rattle.sw_tokens.specs.Tokens.{top, changed, before_of, last_start, kept_by, kept, behind, finished, walk, rest, pieces_of, is_spaced}
use Rattle.sw_tokens.proofs.Forward.{piece_onward}
use Rattle.sw_parse_lexemes.specs.declared.plain.Plain.{Plain}
use Rattle.sw_parse_lexemes.specs.Plains.{end_by, holds_slash, has_slash, plain_of, plains_from}
use Rattle.sw_convert_spelling.proofs.Again.{lt_or_le}
use Rattle.sw_convert_spelling.proofs.Choices.{both}
use Rattle.sw_convert_texts.proofs.JoinedTexts.{slice_more, slice_none}
use Rattle.sw_convert_texts.proofs.Pieces.{name_has}
use Rattle.sw_convert_texts.proofs.TokenPairs.{Next, Pairs}

-- ---- bytes of a text

all_taken : (f : ℕ → Bool) (bs : List ℕ) (i n : ℕ) → ((k : ℕ) → i ≤ k → k < i + n → f (byte bs k) ≡ true)
    → list_all f (take n (drop i bs)) ≡ true
unfolding byte
all_taken f [] zero zero all = refl
all_taken f [] zero (suc n) all = refl
all_taken f [] (suc i) zero all = refl
all_taken f [] (suc i) (suc n) all = refl
all_taken f (b ∷ bs) zero zero all = refl
all_taken f (b ∷ bs) zero (suc n) all =
    both (f b) _ (all 0 (omega arith) (omega arith))
    (all_taken f bs zero n (λ k low high. all (suc k) (omega arith) (omega (arith, high))))
all_taken f (b ∷ bs) (suc i) n all =
    all_taken f bs i n (λ k low high. all (suc k) (omega (arith, low)) (omega (arith, high)))

white_at : (bs : List ℕ) (f i j : ℕ) → length bs ≤ f + i → i ≤ j → j < run_end classes.White bs i → is_white (byte bs j) ≡ true
white_at bs zero i j past low high =
    let none = run_past bs classes.White i (omega (arith, past)) in absurd (omega (arith, none, low, high))
white_at bs (suc f) i j past low high =
    go (is_white (byte bs i)) refl (lt_or_le i j) (white_at bs f (i + 1) j (omega (arith, past)))
  where
    go : (t : Bool) → is_white (byte bs i) ≡ t → (i < j) ⊎ (j ≤ i)
        → (i + 1 ≤ j → j < run_end classes.White bs (i + 1) → is_white (byte bs j) ≡ true) → is_white (byte bs j) ≡ true
    go true t (inl lt) more =
        let on = if_true (is_white (byte bs i)) (i + 1) i t in
        let step = run_step bs classes.White i (omega (arith, on)) in
        let same = ap (run_end classes.White bs) on in
        more (omega (arith, lt)) (omega (arith, step, same, high))
    go true t (inr le) more =
        let place : i ≡ j = omega (arith, low, le) in ap (λ (k : ℕ). is_white (byte bs k)) (sym place) ∙ t
    go false t side more =
        let none = if_false (is_white (byte bs i)) (i + 1) i t in
        let stays = run_stop bs classes.White i (omega (arith, none)) in absurd (omega (arith, stays, low, high))

-- ---- white pieces

module _ (bs : List ℕ) (at : ℕ) where
  -- a run of white space, or a comment to the end of its line
  abbrev WhiteTo : ℕ → Type 0
  WhiteTo n = (n ≡ run_end classes.White bs at) ⊎ ((byte bs at == sign "/") ≡ true)

  abbrev IsWhite : Option Piece → Type 0
  IsWhite o = (p : Piece) → o ≡ Some p → is_some p.token ≡ false → WhiteTo p.to

  none_so : IsWhite None
  none_so p e f = absurd (cc)

  kept_so : (kind : TokenKind) (n : ℕ) (change : Change) → IsWhite (made kind n change)
  kept_so kind n change p e f =
      absurd (let wrong : true ≡ false = ap (λ (o : Option Piece). is_some (unwrap_or o p).token) e ∙ f in cc)

  white_so : (n : ℕ) → WhiteTo n → IsWhite (made_white n)
  white_so n w p e f = subst WhiteTo (ap (λ (o : Option Piece). (unwrap_or o p).to) e) w

  pick : (t : Bool) (x y : Option Piece) → IsWhite x → IsWhite y → IsWhite (if t then x else y)
  pick true x y e f = e
  pick false x y e f = f

  where_so : (t : Bool) (x y : Option Piece) → (t ≡ true → IsWhite x) → IsWhite y → IsWhite (if t then x else y)
  where_so true x y e f = e refl
  where_so false x y e f = f

  word_so : (inside : Inside) (before : Before) → IsWhite (word_piece bs inside before at)
  unfolding word_piece number_piece
  word_so inside before =
      pick (after_hash before && is_hex_form bs at) _ _ (kept_so kinds.Hex _ changes.Keep)
      (pick (begins_number bs at) _ _ (kept_so _ _ changes.Keep)
      (pick (not (after_dollar before) && begins_range bs at) _ _ (kept_so kinds.UnicodeRange _ changes.Keep)
      (pick (begins_url bs at && (byte bs (url_close bs (url_class inside) at) == sign ")")) _ _ (kept_so kinds.Url _ changes.Keep)
      (pick (opens_url bs inside at) _ _ (kept_so kinds.UrlTemplate _ (changes.Push (url_inside inside)))
      (name_has bs at IsWhite (λ kind e n change. kept_so kind n change))))))

  run_so : IsWhite (made_white (run_end classes.White bs at))
  run_so = white_so (run_end classes.White bs at) (inl refl)

  code_so : (inside : Inside) (before : Before) → IsWhite (code_piece bs inside before at)
  unfolding code_piece quote_piece loud_piece
  code_so inside before =
      pick (is_white (byte bs at)) _ _ run_so
      (pick (is_quote (byte bs at)) _ _
      (pick (byte bs (run_end (classes.SheetText (byte bs at)) bs (at + 1)) == byte bs at) _ _
      (kept_so (kinds.Quoted _) _ changes.Keep) (kept_so kinds.Template _ (changes.Push (insides.Quotes (byte bs at)))))
      (pick (opens_at bs at) _ _ (kept_so kinds.OpenInterpolation _ (changes.Push insides.Interpolation))
      (pick ((byte bs at == sign "}") && in_interpolation inside) _ _ (kept_so kinds.CloseInterpolation _ changes.Pop)
      (where_so (begins_silent bs at) _ _ (λ t. white_so _ (inr (and_left (byte bs at == sign "/") _ t)))
      (pick (begins_loud bs at) _ _
      (pick (ends_loud bs (run_end classes.Comment bs (at + 2))) _ _ (kept_so kinds.Comment _ changes.Keep)
      (kept_so kinds.CommentTemplate _ (changes.Push insides.Comment)))
      (word_so inside before))))))

  css_so : (before : Before) → IsWhite (css_piece bs before at)
  unfolding css_piece css_quote css_loud
  css_so before =
      pick (is_white (byte bs at)) _ _ run_so
      (pick (is_quote (byte bs at)) _ _
      (pick (byte bs (run_end (classes.Text (byte bs at)) bs (at + 1)) == byte bs at) _ _
      (kept_so (kinds.Quoted _) _ changes.Keep) none_so)
      (pick (opens_at bs at) _ _ (kept_so kinds.OpenInterpolation _ changes.Keep)
      (pick (begins_silent bs at) _ _ (kept_so kinds.DoubleSlash _ changes.Keep)
      (pick (begins_loud bs at) _ _
      (pick (ends_loud bs (run_end classes.CssComment bs (at + 2))) _ _ (kept_so kinds.Comment _ changes.Keep) none_so)
      (word_so insides.Css before)))))

  text_so : (q : ℕ) → IsWhite (text_piece bs q at)
  unfolding text_piece
  text_so q =
      pick (byte bs at == q) _ _ (kept_so kinds.TemplateEnd _ changes.Pop)
      (pick (opens_at bs at) _ _ (kept_so kinds.OpenInterpolation _ (changes.Push insides.Interpolation))
      (pick (nat_lt at (run_end (classes.SheetText q) bs at)) _ _ (kept_so (kinds.Text _) _ changes.Keep) none_so))

  url_so : (class : Class) → IsWhite (url_piece bs class at)
  unfolding url_piece
  url_so class =
      pick (byte bs at == sign ")") _ _ (kept_so kinds.UrlEnd _ changes.Pop)
      (pick (opens_at bs at) _ _ (kept_so kinds.OpenInterpolation _ (changes.Push insides.Interpolation))
      (pick (nat_lt at (run_end class bs at)) _ _ (kept_so kinds.Piece _ changes.Keep)
      (pick (is_white (byte bs at)) _ _ run_so none_so)))

  comment_so : IsWhite (comment_piece bs at)
  unfolding comment_piece
  comment_so =
      pick (ends_loud bs at) _ _ (kept_so kinds.CommentEnd _ changes.Pop)
      (pick (opens_at bs at) _ _ (kept_so kinds.OpenInterpolation _ (changes.Push insides.Interpolation))
      (pick (nat_lt at (run_end classes.Comment bs at)) _ _ (kept_so kinds.Piece _ changes.Keep) none_so))

  piece_so : (inside : Inside) (before : Before) → IsWhite (piece bs inside before at)
  piece_so insides.Sheet before = code_so insides.Sheet before
  piece_so insides.Interpolation before = code_so insides.Interpolation before
  piece_so insides.Css before = css_so before
  piece_so (insides.Quotes q) before = text_so q
  piece_so insides.Comment before = comment_so
  piece_so insides.Url before = url_so classes.Url
  piece_so insides.UrlInside before = url_so classes.UrlInside

-- ---- between two places

module _ (bs : List ℕ) where
  -- white space alone, where no `/` stands there
  pub record Clear (a b : ℕ) : Type 0 where
    pub order : a ≤ b
    pub white : holds_slash (slice_range bs a b) ≡ false → list_all is_white (slice_range bs a b) ≡ true

  clear_none : (a : ℕ) → Clear a a
  clear_none a = record {
    order = omega arith;
    white = λ e. ap (list_all is_white) (slice_none bs a);
  }

  clear_more : (a b c : ℕ) → Clear a b → Clear b c → Clear a c
  clear_more a b c one more =
      let first = one.order in
      let last = more.order in
      let same = slice_more bs a b c first last in record {
        order = omega (arith, first, last);
        white = λ e.
            let none = sym (list_any-append (λ x. x == sign "/") (slice_range bs a b) (slice_range bs b c)) ∙ sym (ap holds_slash same) ∙ e in
            ap (list_all is_white) same ∙ list_all-append is_white (slice_range bs a b) (slice_range bs b c)
            ∙ both (list_all is_white (slice_range bs a b)) _
            (one.white (or_left (holds_slash (slice_range bs a b)) _ none)) (more.white (or_right (holds_slash (slice_range bs a b)) _ none));
      }

  first_slash : (xs : List ℕ) (i n : ℕ) → i < length xs → 0 < n → (byte xs i == sign "/") ≡ true
      → holds_slash (take n (drop i xs)) ≡ true
  unfolding byte
  first_slash [] i n within some e = absurd (omega (arith, within))
  first_slash (x ∷ xs) i zero within some e = absurd (omega (arith, some))
  first_slash (x ∷ xs) zero (suc n) within some e = by (x == sign "/") e
    where
      by : (t : Bool) → t ≡ true → (t || holds_slash (take n xs)) ≡ true
      by true e = refl
      by false e = absurd (cc)
  first_slash (x ∷ xs) (suc i) (suc n) within some e = first_slash xs i (suc n) (omega (arith, within)) some e

  clear_piece : (inside : Inside) (before : Before) (at : ℕ) (p : Piece) → at < length bs → piece bs inside before at ≡ Some p
      → is_some p.token ≡ false → Clear at p.to
  clear_piece inside before at p within is none =
      let on = piece_onward bs inside before at p within is in
      let forward = on.forward in record {
        order = omega (arith, forward);
        white = by (piece_so bs at inside before p is none);
      }
    where
      by : (p.to ≡ run_end classes.White bs at) ⊎ ((byte bs at == sign "/") ≡ true)
          → holds_slash (slice_range bs at p.to) ≡ false → list_all is_white (slice_range bs at p.to) ≡ true
      by (inl e) f =
          let on = piece_onward bs inside before at p within is in
          let forward = on.forward in
          all_taken is_white bs at (p.to - at)
          (λ k low high. white_at bs (length bs) at k (omega arith) low (omega (arith, high, forward, e)))
      by (inr e) f =
          let on = piece_onward bs inside before at p within is in
          let forward = on.forward in
          absurd (let wrong : true ≡ false = sym (first_slash bs at (p.to - at) within (omega (arith, forward)) e) ∙ f in cc)

  -- ---- tokens

  abbrev Gapped : Token → Token → Type 0
  Gapped t u = opens t.kind ≡ false → Clear t.to u.from

  abbrev Leads : ℕ → List Token → Type 0
  Leads at [] = Unit {0}
  Leads at (t ∷ ts) = Clear at t.from

  abbrev Told : ℕ → List Token → Type 0
  Told at ts = Leads at ts × Pairs Gapped ts

  abbrev listed_of : List Token → Result (List Token) ℕ → List Token
  listed_of default (Ok list) = list
  listed_of default (Err k) = default

  none_left : (os : List Opened) (at : ℕ) (ts : List Token) → finished os ≡ Ok ts → Told at ts
  none_left [] at ts e = subst (Told at) (ap (listed_of []) e) (tt, tt)
  none_left (o ∷ os) at ts e = absurd (cc)

  leads_more : (a b : ℕ) (ts : List Token) → Clear a b → Leads b ts → Leads a ts
  leads_more a b [] c l = tt
  leads_more a b (t ∷ ts) c l = clear_more a b t.from c l

  next_of : (t : Token) (ts : List Token) → Leads t.to ts → Next Gapped t ts
  next_of t [] l = tt
  next_of t (u ∷ ts) l = λ o. l

  kept_told : (token : Option TokenKind) (at to : ℕ) (before : Before) (ts : List Token) → (is_some token ≡ false → Clear at to)
      → Told to ts → Told at (kept_by token at to before ++ ts)
  kept_told None at to before ts c (l, p) = (leads_more at to ts (c refl) l, p)
  kept_told (Some kind) at to before ts c (l, p) = (
    clear_none at,
    (next_of (record { kind = kind; from = at; to = to; spaced = is_spaced before }) ts l, p),
  )

  inside_text : (at : ℕ) → nat_lt at (length bs) ≡ true → at < length bs
  inside_text at e = grind (arith, nat_tests)

  abbrev Further : ℕ → Type 0
  Further n =
      (os : List Opened) (before : Before) (at : ℕ) (ts : List Token) → walk syntaxes.Scss bs n os before at ≡ Ok ts → Told at ts

  module _ (n : ℕ) (again : Further n) (os : List Opened) (before : Before) (at : ℕ) (ts : List Token) where
    further : (p : Piece) → at < length bs → piece bs (top syntaxes.Scss os) before at ≡ Some p → (r : Result (List Token) ℕ)
        → walk syntaxes.Scss bs n (changed os p.change at) (before_of p.token) p.to ≡ r → behind (kept p at before) r ≡ Ok ts
        → Told at ts
    further p within is (Err k) w f = absurd (cc)
    further p within is (Ok us) w f =
        subst (Told at) (ap (listed_of []) f)
        (kept_told p.token at p.to before us (clear_piece (top syntaxes.Scss os) before at p within is)
        (again (changed os p.change at) (before_of p.token) p.to us w))

    abbrev on : Option Piece → Result (List Token) ℕ
    on o = elim o as (λ _. Result (List Token) ℕ) [
      | None ↦ Err (last_start os at)
      | Some p ↦ behind (kept p at before) (walk syntaxes.Scss bs n (changed os p.change at) (before_of p.token) p.to)
    ]

    found : at < length bs → (o : Option Piece) → piece bs (top syntaxes.Scss os) before at ≡ o → on o ≡ Ok ts → Told at ts
    found within None is f = absurd (cc)
    found within (Some p) is f =
        further p within is (walk syntaxes.Scss bs n (changed os p.change at) (before_of p.token) p.to) refl f

    here : (b : Bool) → nat_lt at (length bs) ≡ b
        → (if b then on (piece bs (top syntaxes.Scss os) before at) else finished os) ≡ Ok ts → Told at ts
    here true b f = found (inside_text at b) (piece bs (top syntaxes.Scss os) before at) refl f
    here false b f = none_left os at ts f

  walked : (n : ℕ) → Further n
  walked zero os before at ts e = none_left os at ts e
  walked (suc n) os before at ts e = here n (walked n) os before at ts (nat_lt at (length bs)) refl e

  next_reached : (t : Token) (ends : List ℕ) (ts : List Token) → Next Gapped t ts → Next Gapped (reaching t ends) (reached ts).list
  next_reached t ends [] n = tt
  next_reached t ends (u ∷ ts) n = λ o. subst (λ (m : ℕ). Clear m u.from) (sym (if_false (opens t.kind) _ _ o)) (n o)

  all_reached : (ts : List Token) → Pairs Gapped ts → Pairs Gapped (reached ts).list
  all_reached [] p = tt
  all_reached (t ∷ ts) (n, p) = (next_reached t (reached ts).ends ts n, all_reached ts p)

  all_tokens : (list : List Token) → tokens_of bs ≡ Ok list → Pairs Gapped list
  unfolding tokens_in pieces_of rest
  all_tokens list e = go (pieces_of syntaxes.Scss bs) refl e
    where
      go : (r : Result (List Token) ℕ) → pieces_of syntaxes.Scss bs ≡ r → tokens_by r ≡ Ok list → Pairs Gapped list
      go (Err k) p f = absurd (cc)
      go (Ok ts) p f =
          subst (Pairs Gapped) (ap (listed_of []) f)
          (all_reached ts (walked (suc (length bs - mark_length bs)) [] befores.Other (mark_length bs) ts p).1)

  -- ---- as the pass over tokens has them

  pub record PlainGap (p q : Plain) : Type 0 where
    pub order : p.to ≤ q.from
    pub white : q.silent ≡ false → list_all is_white (slice_range bs p.to q.from) ≡ true

  clear_end : (t u : Token) → Gapped t u → Clear (end_by t (Some u)) u.from
  clear_end t u gapped = go (opens t.kind) refl
    where
      go : (o : Bool) → opens t.kind ≡ o → Clear (if opens t.kind then u.from else t.to) u.from
      go true o = subst (λ (m : ℕ). Clear m u.from) (sym (if_true (opens t.kind) u.from t.to o)) (clear_none u.from)
      go false o = subst (λ (m : ℕ). Clear m u.from) (sym (if_false (opens t.kind) u.from t.to o)) (gapped o)

  next_plain : (gap : ℕ) (t : Token) (list : List Token) → Next Gapped t list
      → Next PlainGap (plain_of bs gap t (end_by t (slice_get list 0))) (plains_from bs (end_by t (slice_get list 0)) list)
  unfolding plain_of has_slash
  next_plain gap t [] n = tt
  next_plain gap t (u ∷ list) n =
      let clear = clear_end t u n in record { order = clear.order; white = λ e. clear.white e }

  all_plains : (gap : ℕ) (list : List Token) → Pairs Gapped list → Pairs PlainGap (plains_from bs gap list)
  all_plains gap [] p = tt
  all_plains gap (t ∷ list) (n, p) = (next_plain gap t list n, all_plains (end_by t (slice_get list 0)) list p)

  pub all_gaps : (list : List Token) → tokens_of bs ≡ Ok list → Pairs PlainGap (plains_from bs 0 list)
  all_gaps list e = all_plains 0 list (all_tokens list e)
