-- White space and comments between tokens, one after the other.
use Rattle.std.proofs.Common.{◌≡◌, ℕ, zero, suc, ◌+◌, ◌-◌, ◌≤◌, ◌<◌, Bool, true, false, ◌&&◌, ◌||◌, List, ◌++◌, refl, subst, arith, length, Option, Some, None}
use Rattle.std.specs.Prelude.{◌==◌, nat_lt, if◌then◌else◌}
use Rattle.std.proofs.lemmas.Bool.Decides.{nat_tests}
use Rattle.sw_text_scan.specs.declared.signs.TheConstants.{CARRIAGE_RETURN, END, LINE_FEED}
use Rattle.sw_text_scan.specs.declared.runs.Class.{Class}
use Rattle.sw_text_scan.specs.declared.runs.Class.TheVariants as classes
use Rattle.sw_text_scan.specs.Bytes.{sign, byte, is_break, is_white, is_quote, opens_at, begins_silent, begins_loud, ends_loud}
use Rattle.sw_text_scan.specs.Runs.{next, run_from, run_end, white_end}
use Rattle.sw_tokens.specs.declared.skips.Inside.{Inside}
use Rattle.sw_tokens.specs.declared.skips.Inside.TheVariants as insides
use Rattle.sw_tokens.specs.declared.token.TokenKind.{TokenKind}
use Rattle.sw_tokens.specs.declared.token.Token.{Token}
use Rattle.sw_tokens.specs.declared.pieces.Before.{Before}
use Rattle.sw_tokens.specs.declared.pieces.Change.TheVariants as changes
use Rattle.sw_tokens.specs.declared.pieces.Piece.{Piece}
use Rattle.sw_tokens.specs.Pieces.{text_piece, url_piece, comment_piece, loud_piece, in_interpolation, code_piece, css_quote, css_loud, css_piece, piece}
use Rattle.sw_text_scan.proofs.Bounds.{and_right}
use Rattle.sw_text_scan.proofs.Progress.{either}
use Rattle.sw_parse_layout.specs.Lines.{is_blank}
use Rattle.sw_parse_layout.specs.Comments.{trimmed_from}
use Rattle.sw_parse_layout.specs.LawsOfText.{InComment, Gap, nothing, white, comment, silent, Fills, ended, made, token}
use Rattle.sw_parse_layout.proofs.Firsts.{Tells, quotes, word_tells}
use Rattle.sw_parse_layout.proofs.Firsts.{token as telling}

module _ (bs : List ℕ) where
  pub gap_both : (i j k : ℕ) → Gap bs i j → Gap bs j k → Gap bs i k
  gap_both i _ k nothing h = h
  gap_both i j k (white m g) h = white m (gap_both (i + 1) j k g h)
  gap_both i j k (comment {mid = mid} c g) h = comment c (gap_both mid j k g h)

  pub gap_front : (i j k : ℕ) (ts : List Token) → Gap bs i j → Fills bs j k ts → Fills bs i k ts
  gap_front i j k _ g (ended h) = ended (gap_both i j k g h)
  gap_front i j k _ g (made {ts = ts} m e f) = made m e (gap_front i j k ts g f)
  gap_front i j k _ g (token {t = t} h c e f) = token (gap_both i j t.from g h) c e f

  pub fills_both : (i j k : ℕ) (ts us : List Token) → Fills bs i j ts → Fills bs j k us → Fills bs i k (ts ++ us)
  fills_both i j k _ us (ended g) h = gap_front i j k us g h
  fills_both i j k _ us (made {ts = ts} m e f) h = made m e (fills_both i j k ts us f h)
  fills_both i j k _ us (token {end = end} {ts = ts} g c e f) h = token g c e (fills_both end j k ts us f h)

  pub fills_on : (i j k : ℕ) (ts : List Token) → Fills bs i j ts → Gap bs j k → Fills bs i k ts
  fills_on i j k _ (ended g) h = ended (gap_both i j k g h)
  fills_on i j k _ (made {ts = ts} m e f) h = made m e (fills_on i j k ts f h)
  fills_on i j k _ (token {end = end} {ts = ts} g c e f) h = token g c e (fills_on end j k ts f h)

  -- white space

  pub one_white : (i : ℕ) → is_white (byte bs i) ≡ true → Gap bs i (i + 1)
  one_white i m = white m nothing

  pub broken : (b : ℕ) → is_break b ≡ true → is_white b ≡ true
  broken b m = grind (arith, nat_tests)

  blank : (b : ℕ) → is_blank b ≡ true → is_white b ≡ true
  blank b m = grind (arith, nat_tests)

  whites_from : (n i : ℕ) → Gap bs i (run_from classes.White bs n i)
  whites_from zero i = nothing
  whites_from (suc n) i =
      either (Gap bs i) (nat_lt i (next classes.White bs i)) _ _ (λ m. taken (is_white (byte bs i)) refl m (whites_from n (i + 1))) (λ _. nothing)
    where
      never : nat_lt i i ≡ true → ⊥
      never m = grind (arith, nat_tests)

      taken : (t : Bool) → is_white (byte bs i) ≡ t → nat_lt i (if t then i + 1 else i) ≡ true
          → Gap bs (i + 1) (run_from classes.White bs n (i + 1))
          → Gap bs i (run_from classes.White bs n (if t then i + 1 else i))
      taken true e m ih = white e ih
      taken false e m ih = absurd (never m)

  pub whites : (i : ℕ) → Gap bs i (run_end classes.White bs i)
  unfolding run_end
  whites i = whites_from (length bs - i) i

  blanks_from : (n i : ℕ) → Gap bs i (run_from classes.Blank bs n i)
  blanks_from zero i = nothing
  blanks_from (suc n) i =
      either (Gap bs i) (nat_lt i (next classes.Blank bs i)) _ _ (λ m. taken (is_blank (byte bs i)) refl m (blanks_from n (i + 1))) (λ _. nothing)
    where
      never : nat_lt i i ≡ true → ⊥
      never m = grind (arith, nat_tests)

      taken : (t : Bool) → is_blank (byte bs i) ≡ t → nat_lt i (if t then i + 1 else i) ≡ true
          → Gap bs (i + 1) (run_from classes.Blank bs n (i + 1))
          → Gap bs i (run_from classes.Blank bs n (if t then i + 1 else i))
      taken true e m ih = white (blank (byte bs i) e) ih
      taken false e m ih = absurd (never m)

  pub blanks : (i : ℕ) → Gap bs i (run_end classes.Blank bs i)
  unfolding run_end
  blanks i = blanks_from (length bs - i) i

  pub break_gap : (i : ℕ) → is_break (byte bs i) ≡ true → Gap bs i (white_end bs i)
  break_gap i m =
      either (Gap bs i) ((byte bs i == CARRIAGE_RETURN) && (byte bs (i + 1) == LINE_FEED)) _ _
      (λ two. subst (Gap bs i) same (white (broken (byte bs i) m) (one_white (i + 1) (feed (byte bs (i + 1)) (and_right
      (byte bs i == CARRIAGE_RETURN) (byte bs (i + 1) == LINE_FEED) two)))))
      (λ _. either (Gap bs i) (is_white (byte bs i)) _ _ (λ w. one_white i w) (λ _. nothing))
    where
      same : i + 1 + 1 ≡ i + 2
      same = omega arith

      feed : (b : ℕ) → (b == LINE_FEED) ≡ true → is_white b ≡ true
      feed b m = grind (arith, nat_tests)

  pub record Trimmed (from to end : ℕ) : Type 0 where
    pub low : from ≤ end
    pub high : end ≤ to
    pub gap : Gap bs end to

  pub trimmed_gap : (n from to : ℕ) → n ≤ to - from → from ≤ to → Trimmed from to (trimmed_from n bs to)
  trimmed_gap zero from to l f = record { low = f; high = omega arith; gap = nothing }
  trimmed_gap (suc n) from to l f =
      either (Trimmed from to) (is_blank (byte bs (to - 1))) _ _
      (λ m.
      let less = trimmed_gap n from (to - 1) (omega arith) (omega arith) in
      let high = less.high in
      record {
        low = less.low;
        high = omega arith;
        gap = gap_both (trimmed_from n bs (to - 1)) (to - 1) to less.gap (subst (Gap bs (to - 1)) same (one_white (to - 1)
            (blank (byte bs (to - 1)) m)));
      })
      (λ _. record { low = f; high = omega arith; gap = nothing })
    where
      same : to - 1 + 1 ≡ to
      same = omega arith

  -- the text of a comment in a line
  comment_from : (n i j : ℕ) → i ≤ j → j < run_from classes.CommentLine bs n i → InComment bs j
  comment_from zero i j a b = absurd (omega arith)
  comment_from (suc n) i j a b =
      either (λ (k : ℕ). j < k → InComment bs j) (nat_lt i (next classes.CommentLine bs i)) _ _
      (λ m c. taken (is_break (byte bs i)) (ends_loud bs i) (opens_at bs i) (byte bs i == END) refl refl refl m (λ l d.
      comment_from n (i + 1) j l d) c) (λ _ c. absurd (omega arith)) b
    where
      never : nat_lt i i ≡ true → ⊥
      never m = grind (arith, nat_tests)

      taken : (b e o p : Bool) → is_break (byte bs i) ≡ b → ends_loud bs i ≡ e → opens_at bs i ≡ o
          → nat_lt i (if b then i else (if e || (o || p) then i else i + 1)) ≡ true → (i + 1 ≤ j
          → j < run_from classes.CommentLine bs n (i + 1) → InComment bs j)
          → j < run_from classes.CommentLine bs n (if b then i else (if e || (o || p) then i else i + 1))
          → InComment bs j
      taken true e o p x y z m ih c = absurd (never m)
      taken false true o p x y z m ih c = absurd (never m)
      taken false false true p x y z m ih c = absurd (never m)
      taken false false false true x y z m ih c = absurd (never m)
      taken false false false false x y z m ih c = here (nat_lt i j) refl
        where
          here : (u : Bool) → nat_lt i j ≡ u → InComment bs j
          here true w = ih (let l : i < j = grind (arith, nat_tests) in omega arith) c
          here false w =
              let same : i ≡ j = grind (arith, nat_tests) in
              subst (InComment bs) same (record { line = x; within = y; plain = z })

  pub comment_text : (i j : ℕ) → i ≤ j → j < run_end classes.CommentLine bs i → InComment bs j
  unfolding run_end
  comment_text i j a b = comment_from (length bs - i) i j a b

  -- a piece that is no token is a gap
  pub data Quiet (at : ℕ) : Option Piece → Type 0 where
    loud : {o : Option Piece} → Tells o → Quiet at o
    kind : {p : Piece} (k : TokenKind) → p.token ≡ Some k → Quiet at (Some p)
    gap : {p : Piece} → Gap bs at p.to → p.change ≡ changes.Keep → Quiet at (Some p)
    none : Quiet at None

  module _ (at : ℕ) where
    texts : (q : ℕ) → Quiet at (text_piece bs q at)
    unfolding text_piece
    texts q =
        either (Quiet at) (byte bs at == q) _ _ (λ _. kind _ refl)
        (λ _. either (Quiet at) (opens_at bs at) _ _ (λ _. kind _ refl)
        (λ _. either (Quiet at) (nat_lt at (run_end (classes.SheetText q) bs at)) _ _ (λ _. kind _ refl) (λ _. none)))

    urls : (class : Class) → Quiet at (url_piece bs class at)
    unfolding url_piece
    urls class =
        either (Quiet at) (byte bs at == sign ")") _ _ (λ _. kind _ refl)
        (λ _. either (Quiet at) (opens_at bs at) _ _ (λ _. kind _ refl)
        (λ _. either (Quiet at) (nat_lt at (run_end class bs at)) _ _ (λ _. kind _ refl)
        (λ _. either (Quiet at) (is_white (byte bs at)) _ _ (λ _. gap (whites at) refl) (λ _. none))))

    comments : Quiet at (comment_piece bs at)
    unfolding comment_piece
    comments =
        either (Quiet at) (ends_loud bs at) _ _ (λ _. kind _ refl)
        (λ _. either (Quiet at) (opens_at bs at) _ _ (λ _. kind _ refl)
        (λ _. either (Quiet at) (nat_lt at (run_end classes.Comment bs at)) _ _ (λ _. kind _ refl) (λ _. none)))

    louds : Quiet at (loud_piece bs at)
    unfolding loud_piece
    louds =
        either (Quiet at) (ends_loud bs (run_end classes.Comment bs (at + 2))) _ _ (λ _. kind _ refl) (λ _. kind _ refl)

    codes : (top : Inside) (before : Before) → Quiet at (code_piece bs top before at)
    unfolding code_piece
    codes top before =
        either (Quiet at) (is_white (byte bs at)) _ _ (λ _. gap (whites at) refl)
        (λ _. either (Quiet at) (is_quote (byte bs at)) _ _ (λ _. loud (quotes bs at (byte bs at)))
        (λ _. either (Quiet at) (opens_at bs at) _ _ (λ _. kind _ refl)
        (λ _. either (Quiet at) ((byte bs at == sign "}") && in_interpolation top) _ _ (λ _. kind _ refl)
        (λ _. either (Quiet at) (begins_silent bs at) _ _ (λ m. gap (comment (silent m) nothing) refl)
        (λ _. either (Quiet at) (begins_loud bs at) _ _ (λ _. louds) (λ _. loud (word_tells bs at top before)))))))

    css_quotes : (q : ℕ) → Quiet at (css_quote bs q at)
    unfolding css_quote
    css_quotes q =
        either (Quiet at) (byte bs (run_end (classes.Text q) bs (at + 1)) == q) _ _ (λ _. kind _ refl) (λ _. none)

    css_louds : Quiet at (css_loud bs at)
    unfolding css_loud
    css_louds =
        either (Quiet at) (ends_loud bs (run_end classes.CssComment bs (at + 2))) _ _ (λ _. kind _ refl) (λ _. none)

    plain_codes : (before : Before) → Quiet at (css_piece bs before at)
    unfolding css_piece
    plain_codes before =
        either (Quiet at) (is_white (byte bs at)) _ _ (λ _. gap (whites at) refl)
        (λ _. either (Quiet at) (is_quote (byte bs at)) _ _ (λ _. css_quotes (byte bs at))
        (λ _. either (Quiet at) (opens_at bs at) _ _ (λ _. kind _ refl)
        (λ _. either (Quiet at) (begins_silent bs at) _ _ (λ _. kind _ refl)
        (λ _. either (Quiet at) (begins_loud bs at) _ _ (λ _. css_louds) (λ _. loud (word_tells bs at insides.Css
        before))))))

    pub quiet : (top : Inside) (before : Before) → Quiet at (piece bs top before at)
    quiet insides.Url before = urls classes.Url
    quiet insides.UrlInside before = urls classes.UrlInside
    quiet insides.Comment before = comments
    quiet insides.Css before = plain_codes before
    quiet insides.Sheet before = codes insides.Sheet before
    quiet insides.Interpolation before = codes insides.Interpolation before
    quiet (insides.Quotes q) before = texts q

  told_none : (o : Option TokenKind) (k : TokenKind) → o ≡ None → o ≡ Some k → ⊥
  told_none None k e f = absurd (cc)
  told_none (Some j) k e f = absurd (cc)

  quiet_gap : (at : ℕ) (p : Piece) → Quiet at (Some p) → p.token ≡ None → Gap bs at p.to
  quiet_gap at p (loud (telling k e dark)) n = absurd (told_none p.token k n e)
  quiet_gap at p (kind k e) n = absurd (told_none p.token k n e)
  quiet_gap at p (gap g k) n = g

  pub piece_gap : (at : ℕ) (top : Inside) (before : Before) (p : Piece) → piece bs top before at ≡ Some p
      → p.token ≡ None → Gap bs at p.to
  piece_gap at top before p e n = quiet_gap at p (subst (Quiet at) e (quiet at top before)) n

  quiet_keeps : (at : ℕ) (p : Piece) → Quiet at (Some p) → p.token ≡ None → p.change ≡ changes.Keep
  quiet_keeps at p (loud (telling k e dark)) n = absurd (told_none p.token k n e)
  quiet_keeps at p (kind k e) n = absurd (told_none p.token k n e)
  quiet_keeps at p (gap g k) n = k

  pub piece_keeps : (at : ℕ) (top : Inside) (before : Before) (p : Piece) → piece bs top before at ≡ Some p
      → p.token ≡ None → p.change ≡ changes.Keep
  piece_keeps at top before p e n = quiet_keeps at p (subst (Quiet at) e (quiet at top before)) n
