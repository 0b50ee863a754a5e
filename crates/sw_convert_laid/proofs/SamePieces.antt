-- Before a line feed the piece that begins at a place is the one that begins there before a space.
use Rattle.std.proofs.Common.{◌≡◌, ◌⊎◌, inl, inr, ℕ, ◌+◌, ◌-◌, ◌≤◌, Bool, true, false, not, ◌&&◌, ◌||◌, if◌then◌else◌, List, ◌∷◌, ◌++◌, length, refl, sym, ◌∙◌, ap, arith, Option, Some, None}
use Rattle.std.specs.Prelude.{◌==◌, nat_lt, slice_range, is_some}
use Rattle.std.proofs.lemmas.Bool.Decides.{nat_tests}
use Rattle.sw_text_scan.specs.declared.runs.Class.{Class}
use Rattle.sw_text_scan.specs.declared.runs.Class.TheVariants as classes
use Rattle.sw_text_scan.specs.Bytes.{sign, is_quote, byte, is_white, is_letter, opens_at, ends_loud}
use Rattle.sw_text_scan.specs.Runs.{next, run_end, begins_name}
use Rattle.sw_text_scan.specs.Words.{is_u, unit_start, unit_end, begins_number, begins_range, begins_url, url_close}
use Rattle.sw_text_scan.proofs.Bounds.{if_true, if_false, and_left, not_true, run_forward}
use Rattle.sw_text_scan.proofs.Progress.{either}
use Rattle.sw_tokens.specs.declared.token.TokenKind.{TokenKind}
use Rattle.sw_tokens.specs.declared.token.TokenKind.TheVariants as kinds
use Rattle.sw_tokens.specs.declared.skips.Inside.{Inside}
use Rattle.sw_tokens.specs.declared.skips.Inside.TheVariants as insides
use Rattle.sw_tokens.specs.declared.pieces.Before.{Before}
use Rattle.sw_tokens.specs.declared.pieces.Change.{Change}
use Rattle.sw_tokens.specs.declared.pieces.Change.TheVariants as changes
use Rattle.sw_tokens.specs.declared.pieces.Piece.{Piece}
use Rattle.sw_tokens.specs.Decoded.{decoded}
use Rattle.sw_tokens.specs.Pieces.{made, made_white, text_piece, quote_piece, sign_of, sign_piece, letter_kind, dash_kind, name_piece, has_hex_length, is_hex_form, number_kind, number_piece, url_class, is_open_ended, opens_url, url_piece, after_dollar, after_hash, word_piece, comment_piece, loud_piece, in_interpolation, code_piece, piece}
use Rattle.sw_convert_spelling.proofs.Again.{ranges}
use Rattle.sw_convert_spelling.proofs.Choices.{ends_here, no_white_piece, right_no, left_no, other_no}
use Rattle.sw_convert_laid.specs.LineFeeds.{ends_plainly, is_url}
use Rattle.sw_convert_laid.proofs.SameRuns.{pick, cases, both_same, one, two, opens_same, ends_same, silent_same, loud_same, next_same, run_same, name_same, unit_same, start_same, number_same, range_same, url_same, close_same, is_even}
use Rattle.sw_convert_laid.proofs.SameStrings.{closed_same, inside_same, is_same, unclosed_same}

-- what may be open in a sheet
abbrev pub is_sound : Inside → Bool
is_sound insides.Css = false
is_sound (insides.Quotes q) = is_quote q
is_sound _ = true

abbrev is_no_url_token : Option TokenKind → Bool
is_no_url_token None = true
is_no_url_token (Some kind) = not (is_url kind)

module _ (r w : List ℕ) (plain : ends_plainly w ≡ true) where
  abbrev bs : List ℕ
  bs = w ++ 32 ∷ r

  abbrev cs : List ℕ
  cs = w ++ 10 ∷ r

  abbrev n : ℕ
  n = length w

  made_same : (kind : TokenKind) (a x : ℕ) (change : Change) → a ≡ x → made kind a change ≡ made kind x change
  made_same kind a x change e = ap (λ (k : ℕ). made kind k change) e

  both_made : (k l : TokenKind) (a x : ℕ) (change : Change) → k ≡ l → a ≡ x → made k a change ≡ made l x change
  both_made k l a x change e f = ap (λ (kind : TokenKind). made kind a change) e ∙ made_same l a x change f

  sign_same : (i : ℕ) → sign_piece cs i ≡ sign_piece bs i
  unfolding sign_piece
  sign_same i =
      pick _ ((byte bs i == sign ".") && ((byte bs (i + 1) == sign ".") && (byte bs (i + 2) == sign "."))) _ _ (made kinds.Ellipsis (i + 3) changes.Keep) _
      (both_same _ _ _ _ (test (λ b. b == sign ".") refl i) (both_same _ _ _ _ (test (λ b. b == sign ".") refl (i + 1)) (test (λ b. b == sign ".") refl (i + 2)))) refl
      (pick _ ((byte bs i == sign "=") && (byte bs (i + 1) == sign "=")) _ _ (made kinds.EqualsEquals (i + 2) changes.Keep) _ (tests (λ b. b == sign "=") (λ b. b == sign "=") refl refl i) refl
      (pick _ ((byte bs i == sign "!") && (byte bs (i + 1) == sign "=")) _ _ (made kinds.NotEquals (i + 2) changes.Keep) _ (tests (λ b. b == sign "!") (λ b. b == sign "=") refl refl i) refl
      (pick _ ((byte bs i == sign "<") && (byte bs (i + 1) == sign "=")) _ _ (made kinds.LessEquals (i + 2) changes.Keep) _ (tests (λ b. b == sign "<") (λ b. b == sign "=") refl refl i) refl
      (pick _ ((byte bs i == sign ">") && (byte bs (i + 1) == sign "=")) _ _ (made kinds.GreaterEquals (i + 2) changes.Keep) _ (tests (λ b. b == sign ">") (λ b. b == sign "=") refl refl i) refl
      (ap (λ (kind : TokenKind). made kind (i + 1) changes.Keep) (one r w plain sign_of refl i))))))
    where
      test : (f : ℕ → Bool) → f 32 ≡ f 10 → (k : ℕ) → f (byte cs k) ≡ f (byte bs k)
      test f e k = one r w plain f e k

      tests : (f g : ℕ → Bool) → f 32 ≡ f 10 → g 32 ≡ g 10 → (k : ℕ)
          → (f (byte cs k) && g (byte cs (k + 1))) ≡ (f (byte bs k) && g (byte bs (k + 1)))
      tests f g e h k = two r w plain f g e h k

  name_piece_same : (i : ℕ) → name_piece cs i ≡ name_piece bs i
  unfolding name_piece
  name_piece_same i =
      let word = run_same r w plain classes.Word refl i in
      let name = ap (run_end classes.Name cs) word ∙ run_same r w plain classes.Name refl (run_end classes.Word bs i) in
      pick _ (is_letter (byte bs i)) _ _ (made (letter_kind (run_end classes.Word bs i) (run_end classes.Name bs (run_end classes.Word bs i))) (run_end classes.Name bs (run_end classes.Word bs i)) changes.Keep) _ (one r w plain is_letter refl i)
      (both_made _ (letter_kind (run_end classes.Word bs i) (run_end classes.Name bs (run_end classes.Word bs i))) _ (run_end classes.Name bs (run_end classes.Word bs i)) changes.Keep
      (ap (λ (k : ℕ). letter_kind k (run_end classes.Name cs (run_end classes.Word cs i))) word ∙ ap (letter_kind (run_end classes.Word bs i)) name) name)
      (pick _ (begins_name bs i) _ _ (made (dash_kind bs i) (run_end classes.Name bs i) changes.Keep) _ (name_same r w plain i)
      (both_made _ (dash_kind bs i) _ (run_end classes.Name bs i) changes.Keep (ap (λ (t : Bool). if t then kinds.DashedName else kinds.Name) (two r w plain (λ b. b == sign "-") (λ b. b == sign "-") refl refl i))
      (run_same r w plain classes.Name refl i))
      (pick _ ((byte bs i == sign "@") && begins_name bs (i + 1)) _ _ (made kinds.AtName (run_end classes.Name bs (i + 1)) changes.Keep) (sign_piece bs i)
      (both_same _ _ _ _ (one r w plain (λ b. b == sign "@") refl i) (name_same r w plain (i + 1)))
      (made_same kinds.AtName _ (run_end classes.Name bs (i + 1)) changes.Keep (run_same r w plain classes.Name refl (i + 1))) (sign_same i)))

  hex_form_same : (i : ℕ) → is_hex_form cs i ≡ is_hex_form bs i
  unfolding is_hex_form
  hex_form_same i =
      let run = run_same r w plain classes.HexDigit refl i in
      both_same _ _ _ _ (ap (λ (k : ℕ). has_hex_length (k - i)) run)
      (ap not (ap (λ (k : ℕ). nat_lt k (next classes.Name cs k)) run
      ∙ ap (nat_lt (run_end classes.HexDigit bs i)) (next_same r w plain classes.Name refl (run_end classes.HexDigit bs i))))

  number_piece_same : (i : ℕ) → number_piece cs i ≡ number_piece bs i
  unfolding number_piece
  number_piece_same i =
      let run = run_same r w plain classes.Digit refl i in
      let unit = start_same r w plain i in
      both_made _ (number_kind bs (run_end classes.Digit bs i) (unit_start bs i)) _ (unit_end bs (unit_start bs i)) changes.Keep
      (ap (λ (k : ℕ). number_kind cs k (unit_start cs i)) run ∙ ap (number_kind cs (run_end classes.Digit bs i)) unit
      ∙ ap (λ (t : Bool). if t then kinds.Digits else kinds.Number)
      (ap (λ (t : Bool). (run_end classes.Digit bs i == unit_start bs i) && t) (one r w plain (λ b. not (b == sign "%")) refl (unit_start bs i))))
      (ap (unit_end cs) unit ∙ unit_same r w plain (unit_start bs i))

  -- a choice that is made again
  keep : (t u : Bool) (a b x y piece : Option Piece) → u ≡ t → (t ≡ true → a ≡ piece → x ≡ piece)
      → (t ≡ false → b ≡ piece → y ≡ piece) → (if t then a else b) ≡ piece → (if u then x else y) ≡ piece
  keep true true a b x y piece e f g h = f refl h
  keep false false a b x y piece e f g h = g refl h
  keep true false a b x y piece e f g h = absurd (cc)
  keep false true a b x y piece e f g h = absurd (cc)

  -- words

  abbrev is_no_url : Option Piece → Bool
  is_no_url None = true
  is_no_url (Some p) = is_no_url_token p.token

  no_number_url : (t : Bool) (to : ℕ) → is_no_url (made (if t then kinds.Digits else kinds.Number) to changes.Keep) ≡ true
  no_number_url true to = refl
  no_number_url false to = refl

  no_letter_url : (t : Bool) (to : ℕ) → is_no_url (made (if t then kinds.Word else kinds.Name) to changes.Keep) ≡ true
  no_letter_url true to = refl
  no_letter_url false to = refl

  first_of_url : (i : ℕ) → begins_url bs i ≡ true → is_letter (byte bs i) ≡ true
  first_of_url i e = letter (byte bs i) (and_left (is_u (byte bs i)) _ e)
    where
      letter : (b : ℕ) → is_u b ≡ true → is_letter b ≡ true
      letter b e = grind (arith, nat_tests)

  url_kind : (top : Inside) (before : Before) (i : ℕ) → begins_url bs i ≡ true
      → (byte bs (url_close bs (url_class top) i) == sign ")") ≡ false → is_no_url (word_piece bs top before i) ≡ true
  unfolding word_piece number_piece name_piece
  url_kind top before i begins open_ended =
      let P : Option Piece → Type 0 = λ p. is_no_url p ≡ true in
      either P (after_hash before && is_hex_form bs i) _ _ (λ t. refl)
      (λ t. either P (begins_number bs i) _ _ (λ t. no_number_url _ (unit_end bs (unit_start bs i)))
      (λ t. either P (not (after_dollar before) && begins_range bs i) _ _ (λ t. refl)
      (λ t. either P (begins_url bs i && (byte bs (url_close bs (url_class top) i) == sign ")")) _ _
      (λ t. absurd (let no = right_no (begins_url bs i) _ open_ended in cc))
      (λ t. either P (opens_url bs top i) _ _ (λ t. refl)
      (λ t. ap is_no_url (if_true (is_letter (byte bs i)) _ _ (first_of_url i begins))
      ∙ no_letter_url _ (run_end classes.Name bs (run_end classes.Word bs i)))))))

  no_template : (xs : List ℕ) (top : Inside) (i : ℕ) → begins_url xs i ≡ false → opens_url xs top i ≡ false
  unfolding opens_url
  no_template xs top i e = right_no (is_open_ended top) _ (left_no (begins_url xs i) _ e)

  url_class_even : (top : Inside) → is_sound top ≡ true → is_even (url_class top) ≡ true
  url_class_even insides.Sheet s = refl
  url_class_even insides.Css s = absurd (cc)
  url_class_even _ s = refl

  word_same : (top : Inside) (before : Before) (i : ℕ) (kind : TokenKind) (to : ℕ) (change : Change) → is_sound top ≡ true
      → (is_url kind || not (begins_url bs i)) ≡ true → word_piece bs top before i ≡ made kind to change
      → word_piece cs top before i ≡ made kind to change
  unfolding word_piece
  word_same top before i kind to change sound u e =
      keep _ _ (made kinds.Hex (run_end classes.HexDigit bs i) changes.Keep) _ _ _ (made kind to change)
      (ap (λ (t : Bool). after_hash before && t) (hex_form_same i))
      (λ t f. made_same kinds.Hex _ (run_end classes.HexDigit bs i) changes.Keep (run_same r w plain classes.HexDigit refl i) ∙ f)
      (λ t. keep _ _ (number_piece bs i) _ _ _ (made kind to change) (number_same r w plain i) (λ t f. number_piece_same i ∙ f)
      (λ t. keep _ _ (made kinds.UnicodeRange (run_end classes.Range bs (i + 2)) changes.Keep) _ _ _ (made kind to change)
      (ap (λ (t : Bool). not (after_dollar before) && t) (range_same r w plain i))
      (λ t f. made_same kinds.UnicodeRange _ (run_end classes.Range bs (i + 2)) changes.Keep (run_same r w plain classes.Range refl (i + 2)) ∙ f)
      (λ t. keep _ _ (made kinds.Url (url_close bs (url_class top) i + 1) changes.Keep) _ _ _ (made kind to change) url_test
      (λ t f. made_same kinds.Url _ (url_close bs (url_class top) i + 1) changes.Keep (ap (λ (k : ℕ). k + 1) close) ∙ f)
      (λ t f.
      let no = no_url t in
      if_false (opens_url cs top i) _ _ (no_template cs top i (url_same r w plain i ∙ no))
      ∙ name_piece_same i ∙ sym (if_false (opens_url bs top i) _ _ (no_template bs top i no)) ∙ f)))) e
    where
      close : url_close cs (url_class top) i ≡ url_close bs (url_class top) i
      close = close_same r w plain (url_class top) (url_class_even top sound) i

      url_test : (begins_url cs i && (byte cs (url_close cs (url_class top) i) == sign ")"))
          ≡ (begins_url bs i && (byte bs (url_close bs (url_class top) i) == sign ")"))
      url_test =
          both_same _ _ _ _ (url_same r w plain i)
          (ap (λ (k : ℕ). byte cs k == sign ")") close
          ∙ one r w plain (λ b. b == sign ")") refl (url_close bs (url_class top) i))

      no_url : (begins_url bs i && (byte bs (url_close bs (url_class top) i) == sign ")")) ≡ false → begins_url bs i ≡ false
      no_url t = go (begins_url bs i) refl
        where
          go : (x : Bool) → begins_url bs i ≡ x → x ≡ false
          go false b = refl
          go true b =
              let none : is_url kind ≡ false = (let k = url_kind top before i b (other_no (begins_url bs i) _ t b) in kind_no kind (ap is_no_url (sym e) ∙ k)) in
              absurd (wrong (is_url kind) (begins_url bs i) none b u)
            where
              kind_no : (k : TokenKind) → not (is_url k) ≡ true → is_url k ≡ false
              kind_no k e = not_true (is_url k) e

              wrong : (x y : Bool) → x ≡ false → y ≡ true → (x || not y) ≡ true → ⊥
              wrong true y f g h = absurd (cc)
              wrong false true f g h = absurd (cc)
              wrong false false f g h = absurd (cc)

  -- strings

  text_of_run : (i j : ℕ) → i ≤ j → j ≤ n → decoded (slice_range cs i j) ≡ decoded (slice_range bs i j)
  text_of_run i j l m = ap decoded (ranges w (32 ∷ r) (10 ∷ r) i j l m)

  quote_piece_same : (q i : ℕ) → is_quote q ≡ true → (kind : TokenKind) (to : ℕ) (change : Change) → to ≤ n
      → quote_piece bs q i ≡ made kind to change → quote_piece cs q i ≡ made kind to change
  unfolding quote_piece
  quote_piece_same q i quote kind to change l e = go (byte bs (run_end (classes.SheetText q) bs (i + 1)) == q) refl
    where
      go : (t : Bool) → (byte bs (run_end (classes.SheetText q) bs (i + 1)) == q) ≡ t
          → (if byte cs (run_end (classes.SheetText q) cs (i + 1)) == q
          then made (kinds.Quoted (decoded (slice_range cs (i + 1) (run_end (classes.SheetText q) cs (i + 1)))))
          (run_end (classes.SheetText q) cs (i + 1) + 1) changes.Keep
          else made kinds.Template (i + 1) (changes.Push (insides.Quotes q))) ≡ made kind to change
      go true t =
          let is = sym (if_true (byte bs (run_end (classes.SheetText q) bs (i + 1)) == q) _ _ t) ∙ e in
          let end : run_end (classes.SheetText q) bs (i + 1) + 1 ≡ to = ends_here _ _ changes.Keep is in
          let same = closed_same r w plain q quote (i + 1) (omega (arith, end, l)) in
          let on = run_forward bs (classes.SheetText q) (i + 1) in
          if_true (byte cs (run_end (classes.SheetText q) cs (i + 1)) == q) _ _
          (ap (λ (k : ℕ). byte cs k == q) same ∙ is_same r w plain q quote (run_end (classes.SheetText q) bs (i + 1)) ∙ t)
          ∙ ap (λ (k : ℕ). made (kinds.Quoted (decoded (slice_range cs (i + 1) k))) (k + 1) changes.Keep) same
          ∙ ap (λ (xs : List ℕ). made (kinds.Quoted xs) (run_end (classes.SheetText q) bs (i + 1) + 1) changes.Keep)
          (text_of_run (i + 1) (run_end (classes.SheetText q) bs (i + 1)) on (omega (arith, end, l))) ∙ is
      go false t =
          if_false (byte cs (run_end (classes.SheetText q) cs (i + 1)) == q) _ _ (unclosed_same r w plain q quote (i + 1) t)
          ∙ sym (if_false (byte bs (run_end (classes.SheetText q) bs (i + 1)) == q) _ _ t) ∙ e

  text_piece_same : (q i : ℕ) → is_quote q ≡ true → (kind : TokenKind) (to : ℕ) (change : Change) → to ≤ n
      → text_piece bs q i ≡ made kind to change → text_piece cs q i ≡ made kind to change
  unfolding text_piece
  text_piece_same q i quote kind to change l e =
      keep _ _ (made kinds.TemplateEnd (i + 1) changes.Pop) _ _ _ (made kind to change) (is_same r w plain q quote i) (λ t f. f)
      (λ t. keep _ _ (made kinds.OpenInterpolation (i + 2) (changes.Push insides.Interpolation)) _ _ _ (made kind to change) (opens_same r w plain i) (λ t f. f)
      (λ t. run (nat_lt i (run_end (classes.SheetText q) bs i)) refl)) e
    where
      run : (t : Bool) → nat_lt i (run_end (classes.SheetText q) bs i) ≡ t
          → (if nat_lt i (run_end (classes.SheetText q) bs i)
          then made (kinds.Text (decoded (slice_range bs i (run_end (classes.SheetText q) bs i)))) (run_end (classes.SheetText q) bs i) changes.Keep
          else None) ≡ made kind to change
          → (if nat_lt i (run_end (classes.SheetText q) cs i)
          then made (kinds.Text (decoded (slice_range cs i (run_end (classes.SheetText q) cs i)))) (run_end (classes.SheetText q) cs i) changes.Keep
          else None) ≡ made kind to change
      run true t f =
          let is = sym (if_true (nat_lt i (run_end (classes.SheetText q) bs i)) _ None t) ∙ f in
          let end : run_end (classes.SheetText q) bs i ≡ to = ends_here _ _ changes.Keep is in
          let same = closed_same r w plain q quote i (inside_same r w plain q quote i (omega (arith, end, l))) in
          let on = run_forward bs (classes.SheetText q) i in
          if_true (nat_lt i (run_end (classes.SheetText q) cs i)) _ None (ap (nat_lt i) same ∙ t)
          ∙ ap (λ (k : ℕ). made (kinds.Text (decoded (slice_range cs i k))) k changes.Keep) same
          ∙ ap (λ (xs : List ℕ). made (kinds.Text xs) (run_end (classes.SheetText q) bs i) changes.Keep)
          (text_of_run i (run_end (classes.SheetText q) bs i) on (omega (arith, end, l))) ∙ is
      run false t f = absurd (nothing_made (sym (if_false (nat_lt i (run_end (classes.SheetText q) bs i)) _ None t) ∙ f))
        where
          nothing_made : None ≡ made kind to change → ⊥
          nothing_made e = absurd (let wrong : false ≡ true = ap is_some e in cc)

  -- comments, urls and code

  comment_piece_same : (i : ℕ) → comment_piece cs i ≡ comment_piece bs i
  unfolding comment_piece
  comment_piece_same i =
      let run = run_same r w plain classes.Comment refl i in
      pick _ (ends_loud bs i) _ _ (made kinds.CommentEnd (i + 2) changes.Pop) _ (ends_same r w plain i) refl
      (pick _ (opens_at bs i) _ _ (made kinds.OpenInterpolation (i + 2) (changes.Push insides.Interpolation)) _ (opens_same r w plain i) refl
      (pick _ (nat_lt i (run_end classes.Comment bs i)) _ _ (made kinds.Piece (run_end classes.Comment bs i) changes.Keep) None (ap (nat_lt i) run)
      (made_same kinds.Piece _ (run_end classes.Comment bs i) changes.Keep run) refl))

  loud_piece_same : (i : ℕ) → loud_piece cs i ≡ loud_piece bs i
  unfolding loud_piece
  loud_piece_same i =
      let run = run_same r w plain classes.Comment refl (i + 2) in
      pick _ (ends_loud bs (run_end classes.Comment bs (i + 2))) _ _ (made kinds.Comment (run_end classes.Comment bs (i + 2) + 2) changes.Keep) _
      (ap (ends_loud cs) run ∙ ends_same r w plain (run_end classes.Comment bs (i + 2)))
      (made_same kinds.Comment _ (run_end classes.Comment bs (i + 2) + 2) changes.Keep (ap (λ (k : ℕ). k + 2) run)) refl

  url_piece_same : (class : Class) → is_even class ≡ true → (i : ℕ) → url_piece cs class i ≡ url_piece bs class i
  unfolding url_piece
  url_piece_same class even i =
      let run = run_same r w plain class even i in
      pick _ (byte bs i == sign ")") _ _ (made kinds.UrlEnd (i + 1) changes.Pop) _ (one r w plain (λ b. b == sign ")") refl i) refl
      (pick _ (opens_at bs i) _ _ (made kinds.OpenInterpolation (i + 2) (changes.Push insides.Interpolation)) _ (opens_same r w plain i) refl
      (pick _ (nat_lt i (run_end class bs i)) _ _ (made kinds.Piece (run_end class bs i) changes.Keep) _ (ap (nat_lt i) run)
      (made_same kinds.Piece _ (run_end class bs i) changes.Keep run)
      (pick _ (is_white (byte bs i)) _ _ (made_white (run_end classes.White bs i)) None (one r w plain is_white refl i)
      (ap made_white (run_same r w plain classes.White refl i)) refl)))

  code_same : (top : Inside) (before : Before) (i : ℕ) (kind : TokenKind) (to : ℕ) (change : Change) → is_sound top ≡ true
      → (is_url kind || not (begins_url bs i)) ≡ true → to ≤ n → code_piece bs top before i ≡ made kind to change
      → code_piece cs top before i ≡ made kind to change
  unfolding code_piece
  code_same top before i kind to change sound u l e =
      keep _ _ (made_white (run_end classes.White bs i)) _ _ _ (made kind to change) (one r w plain is_white refl i)
      (λ t f. ap made_white (run_same r w plain classes.White refl i) ∙ f)
      (λ t. keep _ _ (quote_piece bs (byte bs i) i) _ _ _ (made kind to change) (one r w plain is_quote refl i)
      (λ t f. ap (λ (q : ℕ). quote_piece cs q i) (quoted t) ∙ quote_piece_same (byte bs i) i t kind to change l f)
      (λ t. keep _ _ (made kinds.OpenInterpolation (i + 2) (changes.Push insides.Interpolation)) _ _ _ (made kind to change) (opens_same r w plain i)
      (λ t f. f)
      (λ t. keep _ _ (made kinds.CloseInterpolation (i + 1) changes.Pop) _ _ _ (made kind to change)
      (ap (λ (x : Bool). x && in_interpolation top) (one r w plain (λ b. b == sign "}") refl i)) (λ t f. f)
      (λ t. keep _ _ (made_white (run_end classes.Line bs (i + 2))) _ _ _ (made kind to change) (silent_same r w plain i)
      (λ t f. no_white_piece (run_end classes.Line bs (i + 2)) f)
      (λ t. keep _ _ (loud_piece bs i) _ _ _ (made kind to change) (loud_same r w plain i) (λ t f. loud_piece_same i ∙ f)
      (λ t f. word_same top before i kind to change sound u f)))))) e
    where
      quoted : is_quote (byte bs i) ≡ true → byte cs i ≡ byte bs i
      quoted t = go (cases r w plain i)
        where
          go : (byte cs i ≡ byte bs i) ⊎ ((byte bs i ≡ 32) × (byte cs i ≡ 10) × (i ≡ length w)) → byte cs i ≡ byte bs i
          go (inl e) = e
          go (inr (b, c, at)) = absurd (let wrong : false ≡ true = sym (ap is_quote b) ∙ t in cc)

  -- a token that ends within the text
  pub piece_same : (inside : Inside) (before : Before) (i : ℕ) (kind : TokenKind) (to : ℕ) (change : Change)
      → is_sound inside ≡ true → (is_url kind || not (begins_url bs i)) ≡ true → to ≤ n
      → piece bs inside before i ≡ made kind to change → piece cs inside before i ≡ made kind to change
  piece_same insides.Css before i kind to change sound u l e = absurd (cc)
  piece_same (insides.Quotes q) before i kind to change sound u l e = text_piece_same q i sound kind to change l e
  piece_same insides.Url before i kind to change sound u l e = url_piece_same classes.Url refl i ∙ e
  piece_same insides.UrlInside before i kind to change sound u l e = url_piece_same classes.UrlInside refl i ∙ e
  piece_same insides.Comment before i kind to change sound u l e = comment_piece_same i ∙ e
  piece_same insides.Sheet before i kind to change sound u l e = code_same insides.Sheet before i kind to change sound u l e
  piece_same insides.Interpolation before i kind to change sound u l e =
      code_same insides.Interpolation before i kind to change sound u l e
