-- A url that was read, with no braces in it, is the same token wherever it is written.
use Rattle.std.proofs.Common.{◌≡◌, ◌⊎◌, ◌≤◌, ◌<◌, ℕ, zero, suc, ◌+◌, ◌-◌, Bool, true, false, not, ◌&&◌, ◌||◌, if◌then◌else◌, List, [], ◌++◌, length, Option, inl, inr, refl, sym, ◌∙◌, ap, subst, arith}
use Rattle.std.specs.Prelude.{◌==◌, nat_lt}
use Rattle.std.proofs.lemmas.Bool.Decides.{nat_tests}
use Rattle.sw_text_scan.specs.declared.runs.Class.{Class}
use Rattle.sw_text_scan.specs.declared.runs.Class.TheVariants as classes
use Rattle.sw_text_scan.specs.declared.signs.TheConstants.{END}
use Rattle.sw_text_scan.specs.Bytes.{sign, byte, is_break, is_white, is_digit, is_quote, starts_plainly, opens_at, begins_silent, begins_loud, is_url_byte}
use Rattle.sw_text_scan.specs.Runs.{escape_end, goes_in_url, next, run_from, run_end}
use Rattle.sw_text_scan.specs.Words.{is_u, is_r, is_l, begins_number, begins_range, begins_url, url_text_end, url_close, unit_start}
use Rattle.sw_text_scan.proofs.Bounds.{if_true, if_false, and_left, and_right, run_forward}
use Rattle.sw_text_scan.proofs.Progress.{run_stops}
use Rattle.sw_text_locality.proofs.Begins.{escape_goes}
use Rattle.sw_text_locality.proofs.Characters.{escape_none}
use Rattle.sw_text_locality.proofs.Kept.{first}
use Rattle.sw_text_locality.proofs.Lexical.{split, equal}
use Rattle.sw_text_locality.proofs.Runs.{Steps, white_steps, escape_steps}
use Rattle.sw_text_locality.proofs.Written.{byte_before}
use Rattle.sw_tokens.specs.declared.pieces.Before.{Before}
use Rattle.sw_tokens.specs.declared.pieces.Before.TheVariants as befores
use Rattle.sw_tokens.specs.declared.pieces.Change.TheVariants as changes
use Rattle.sw_tokens.specs.declared.skips.Inside.{Inside}
use Rattle.sw_tokens.specs.declared.skips.Inside.TheVariants as insides
use Rattle.sw_tokens.specs.declared.pieces.Change.{Change}
use Rattle.sw_tokens.specs.declared.pieces.Piece.{Piece}
use Rattle.sw_tokens.specs.declared.token.TokenKind.{TokenKind}
use Rattle.sw_tokens.specs.declared.token.TokenKind.TheVariants as kinds
use Rattle.sw_tokens.specs.Pieces.{made, piece, url_class, is_hex_form, after_dollar, after_hash, in_interpolation, number_kind, number_piece, word_piece, code_piece}
use Rattle.sw_convert_spelling.specs.Spelt.{is_sheet_code}
use Rattle.sw_convert_spelling.proofs.Again as texts
use Rattle.sw_convert_spelling.proofs.Choices.{left_no, right_no, neither, both, ends_here, unlike, no_white_piece}
use Rattle.sw_convert_tokens.specs.Written.{is_calm}
use Rattle.sw_convert_tokens.proofs.Names.{Start, start_by}
use Rattle.sw_convert_texts.proofs.Pieces.{is_frame, is_named, Cases, piece_has, name_has}

-- the classes of urls
abbrev is_url_class : Class → Bool
is_url_class classes.Url = true
is_url_class classes.UrlInside = true
is_url_class classes.CssUrl = true
is_url_class _ = false

url_is : (top : Inside) → is_url_class (url_class top) ≡ true
url_is insides.Sheet = refl
url_is insides.Css = refl
url_is _ = refl

module _ (w old after : List ℕ) (closed : (k : ℕ) → k < length w → (byte (w ++ old) k == sign "}") ≡ false)
    (shut : (k : ℕ) → k + 1 < length w → opens_at (w ++ old) k ≡ false)
    (end : (byte (w ++ old) (length w - 1) == sign ")") ≡ true) (some : 0 < length w) where
  abbrev bs : List ℕ
  bs = w ++ old

  abbrev cs : List ℕ
  cs = w ++ after

  abbrev n : ℕ
  n = length w

  -- ---- whatever a url stands in, the same characters are its own

  no_open : (i : ℕ) → i < n → opens_at bs i ≡ false
  no_open i lt = go (texts.lt_or_le (i + 1) n)
    where
      paren_no_hash : (b : ℕ) → (b == sign ")") ≡ true → (b == sign "#") ≡ false
      paren_no_hash b e = grind (arith, nat_tests)

      go : (i + 1 < n) ⊎ (n ≤ i + 1) → opens_at bs i ≡ false
      go (inl more) = shut i more
      go (inr last) =
          left_no (byte bs i == sign "#") _
          (paren_no_hash (byte bs i) (ap (λ (k : ℕ). byte bs k == sign ")") (let z : i ≡ n - 1 = omega (arith, lt, last) in z) ∙ end))

  same_next : (c : Class) → is_url_class c ≡ true → (i : ℕ) → i < n → next c bs i ≡ next classes.Url bs i
  same_next classes.Url u i lt = refl
  same_next classes.UrlInside u i lt =
      ap (λ (t : Bool). if t && not (opens_at bs i) then i + 1 else escape_end bs i)
      (drop_yes (is_url_byte (byte bs i)) (not (byte bs i == sign "}")) (ap not (closed i lt)))
    where
      drop_yes : (a b : Bool) → b ≡ true → (a && b) ≡ a
      drop_yes true b e = e
      drop_yes false b e = refl
  same_next classes.CssUrl u i lt =
      ap (λ (t : Bool). if t then i + 1 else escape_end bs i)
      (sym (drop_yes (is_url_byte (byte bs i)) (not (opens_at bs i)) (ap not (no_open i lt))))
    where
      drop_yes : (a b : Bool) → b ≡ true → (a && b) ≡ a
      drop_yes true b e = e
      drop_yes false b e = refl
  same_next _ u i lt = absurd (cc)

  forward : (c : Class) (f i : ℕ) → i ≤ run_from c bs f i
  forward c zero i = omega arith
  forward c (suc f) i = go (nat_lt i (next c bs i)) refl (forward c f (next c bs i))
    where
      go : (t : Bool) → nat_lt i (next c bs i) ≡ t → next c bs i ≤ run_from c bs f (next c bs i)
          → i ≤ (if t then run_from c bs f (next c bs i) else i)
      go true t more = let lt : i < next c bs i = grind (arith, nat_tests) in omega (arith, lt, more)
      go false t more = omega arith

  same_both : (c d : Class) → is_url_class c ≡ true → is_url_class d ≡ true → (i : ℕ) → i < n → next c bs i ≡ next d bs i
  same_both c d u v i lt = same_next c u i lt ∙ sym (same_next d v i lt)

  same_from : (c d : Class) → is_url_class c ≡ true → is_url_class d ≡ true → (f i : ℕ) → run_from c bs f i < n → run_from c bs f i ≡ run_from d bs f i
  same_from c d u v zero i lt = refl
  same_from c d u v (suc f) i lt =
      go (nat_lt i (next c bs i)) refl lt (λ l. same_from c d u v f (next c bs i) l)
    where
      go : (t : Bool) → nat_lt i (next c bs i) ≡ t → (if t then run_from c bs f (next c bs i) else i) < n
          → (run_from c bs f (next c bs i) < n → run_from c bs f (next c bs i) ≡ run_from d bs f (next c bs i))
          → (if t then run_from c bs f (next c bs i) else i)
          ≡ (if nat_lt i (next d bs i) then run_from d bs f (next d bs i) else i)
      go true t lt again =
          let on : i < next c bs i = grind (arith, nat_tests) in
          let fw = forward c f (next c bs i) in
          let same = same_both c d u v i (omega (arith, on, fw, lt)) in
          again lt
          ∙ ap (run_from d bs f) same
          ∙ sym (if_true (nat_lt i (next d bs i)) _ _ (ap (nat_lt i) (sym same) ∙ t))
      go false t lt again =
          sym (if_false (nat_lt i (next d bs i)) _ _ (ap (nat_lt i) (sym (same_both c d u v i lt)) ∙ t))

  same_run : (c d : Class) → is_url_class c ≡ true → is_url_class d ≡ true → (i : ℕ) → run_end c bs i < n → run_end c bs i ≡ run_end d bs i
  unfolding run_end
  same_run c d u v i lt = same_from c d u v (length bs - i) i lt

  -- ---- and in the other text

  url_steps : Steps bs cs classes.Url
  url_steps p q m lt e a =
      split (goes_in_url bs p) (p + 1) (escape_end bs p) (p + m)
      (λ t f.
      let more : 0 < m = omega (arith, e, lt) in
      let one = first bs cs p q (m + 1) (omega arith) a in
      let two : byte bs (p + 1) ≡ byte cs (q + 1) = a 1 (omega (arith, more)) in
      if_true (goes_in_url cs q) (q + 1) (escape_end cs q) (goes_so p q true one two t)
      ∙ (let r : q + 1 ≡ q + m = omega (arith, f) in r))
      (λ t f.
      let more : 0 < m = omega (arith, e, lt) in
      let one = first bs cs p q (m + 1) (omega arith) a in
      let two : byte bs (p + 1) ≡ byte cs (q + 1) = a 1 (omega (arith, more)) in
      if_false (goes_in_url cs q) (q + 1) (escape_end cs q) (goes_so p q false one two t)
      ∙ escape_steps bs cs p q m (slashed p (omega (arith, f, more))) (omega (arith, f, more)) f a) e
    where
      goes_so : (p q : ℕ) (t : Bool) → byte bs p ≡ byte cs q → byte bs (p + 1) ≡ byte cs (q + 1) → goes_in_url bs p ≡ t → goes_in_url cs q ≡ t
      goes_so p q t one two e =
          ap (λ (b : ℕ). is_url_byte b && not ((b == sign "#") && (byte cs (q + 1) == sign "{"))) (sym one)
          ∙ ap (λ (b : ℕ). is_url_byte (byte bs p) && not ((byte bs p == sign "#") && (b == sign "{"))) (sym two) ∙ e

      slashed : (p : ℕ) → p < escape_end bs p → byte bs p ≡ sign "\\"
      slashed p more = by (byte bs p == sign "\\") refl
        where
          by : (t : Bool) → (byte bs p == sign "\\") ≡ t → byte bs p ≡ sign "\\"
          by true t = equal (byte bs p) (sign "\\") t
          by false t = let stays = escape_none bs p t in absurd (omega (arith, stays, more))

  -- what ends a run ends it there too
  white_stop : (i : ℕ) → i < n → next classes.White bs i ≤ i → next classes.White cs i ≤ i
  white_stop i lt l =
      let same : is_white (byte cs i) ≡ is_white (byte bs i) = texts.back w old after is_white i lt in
      go (is_white (byte bs i)) refl same
    where
      go : (t : Bool) → is_white (byte bs i) ≡ t → is_white (byte cs i) ≡ is_white (byte bs i) → next classes.White cs i ≤ i
      go true t same = let on = if_true (is_white (byte bs i)) (i + 1) i t in absurd (omega (arith, on, l))
      go false t same = let on = if_false (is_white (byte cs i)) (i + 1) i (same ∙ t) in omega (arith, on)

  url_stop : (i : ℕ) → i < n → next classes.Url bs i ≤ i → next classes.Url cs i ≤ i
  url_stop i lt l = go (texts.lt_or_le (i + 1) n)
    where
      paren_no : (b : ℕ) → (b == sign ")") ≡ true → (is_url_byte b ≡ false) × ((b == sign "\\") ≡ false)
      paren_no b e = (grind (arith, nat_tests), grind (arith, nat_tests))

      none_of : (a b : Bool) → (a && not b) ≡ true → a ≡ true
      none_of true b e = refl
      none_of false b e = e

      no_url_byte : goes_in_url bs i ≡ false
      no_url_byte = by (goes_in_url bs i) refl
        where
          by : (t : Bool) → goes_in_url bs i ≡ t → goes_in_url bs i ≡ false
          by true t = let on = if_true (goes_in_url bs i) (i + 1) (escape_end bs i) t in absurd (omega (arith, on, l))
          by false t = t

      go : (i + 1 < n) ⊎ (n ≤ i + 1) → next classes.Url cs i ≤ i
      go (inl more) =
          let one = texts.same w old after i lt in
          let two = texts.same w old after (i + 1) more in
          let goes : goes_in_url cs i ≡ false =
          ap (λ (b : ℕ). is_url_byte b && not ((b == sign "#") && (byte cs (i + 1) == sign "{"))) (sym one)
          ∙ ap (λ (b : ℕ). is_url_byte (byte bs i) && not ((byte bs i == sign "#") && (b == sign "{"))) (sym two) ∙ no_url_byte in
          let escape : nat_lt i (escape_end cs i) ≡ nat_lt i (escape_end bs i) =
          escape_goes cs i
          ∙ ap (λ (b : ℕ). (b == sign "\\") && not (is_break (byte cs (i + 1)) || (byte cs (i + 1) == END))) (sym one)
          ∙ ap (λ (b : ℕ). (byte bs i == sign "\\") && not (is_break b || (b == END))) (sym two)
          ∙ sym (escape_goes bs i) in
          let none : nat_lt i (escape_end bs i) ≡ false =
          low (escape_end bs i) (subst (λ (m : ℕ). m ≤ i) (if_false (goes_in_url bs i) (i + 1) (escape_end bs i) no_url_byte) l) in
          let on = if_false (goes_in_url cs i) (i + 1) (escape_end cs i) goes in
          let high = below (escape_end cs i) (escape ∙ none) in
          omega (arith, on, high)
        where
          low : (m : ℕ) → m ≤ i → nat_lt i m ≡ false
          low m e = grind (arith, nat_tests)

          below : (m : ℕ) → nat_lt i m ≡ false → m ≤ i
          below m e = grind (arith, nat_tests)
      go (inr last) =
          let place : i ≡ n - 1 = omega (arith, lt, last) in
          let it = paren_no (byte cs i) (texts.back w old after (λ b. b == sign ")") i lt ∙ ap (λ (k : ℕ). byte bs k == sign ")") place ∙ end) in
          let on = if_false (goes_in_url cs i) (i + 1) (escape_end cs i) (left_no (is_url_byte (byte cs i)) _ it.0) in
          let none = escape_none cs i it.1 in
          omega (arith, on, none)

  white_again : (i : ℕ) → run_end classes.White bs i < n → run_end classes.White cs i ≡ run_end classes.White bs i
  white_again i lt =
      texts.run_inner w old after classes.White (white_steps bs cs) i lt
      (white_stop (run_end classes.White bs i) lt (run_stops bs classes.White i))

  url_again : (i : ℕ) → run_end classes.Url bs i < n → run_end classes.Url cs i ≡ run_end classes.Url bs i
  url_again i lt =
      texts.run_inner w old after classes.Url url_steps i lt
      (url_stop (run_end classes.Url bs i) lt (run_stops bs classes.Url i))

-- ---- a url

-- where one ends in a text
pub record UrlAt (xs : List ℕ) (n : ℕ) : Type 0 where
  pub top : Inside
  pub begins : begins_url xs 0 ≡ true
  pub close : (byte xs (url_close xs (url_class top) 0) == sign ")") ≡ true
  pub ends : url_close xs (url_class top) 0 + 1 ≡ n

abbrev is_url_kind : TokenKind → Bool
is_url_kind kinds.Url = true
is_url_kind _ = false

frame_no : (kind : TokenKind) → is_frame kind ≡ true → is_url_kind kind ≡ false
frame_no kinds.Url e = absurd (cc)
frame_no _ e = refl

named_no : (kind : TokenKind) → is_named kind ≡ true → is_url_kind kind ≡ false
named_no kinds.Url e = absurd (cc)
named_no _ e = refl

number_no : (t : Bool) → is_url_kind (if t then kinds.Digits else kinds.Number) ≡ false
number_no true = refl
number_no false = refl

module _ (n : ℕ) (change : Change) where
  abbrev result : Option Piece
  result = made kinds.Url n change

  not_so : {P : Type 0} (other : TokenKind) (a : ℕ) (c : Change) → made other a c ≡ result → is_url_kind other ≡ false → P
  not_so other a c e f = absurd (let wrong : true ≡ false = unlike is_url_kind other a c e ∙ f in cc)

  url_cases : (xs : List ℕ) → Cases xs 0 (λ o. o ≡ result → UrlAt xs n)
  unfolding number_piece
  url_cases xs = record {
    none = λ e. absurd (cc);
    white = λ m e. no_white_piece _ e;
    frame = λ other f m c e. not_so other m c e (frame_no other f);
    quoted = λ i j m e. not_so (kinds.Quoted _) m changes.Keep e refl;
    text = λ i j m e. not_so (kinds.Text _) m changes.Keep e refl;
    name = name_has xs 0 (λ o. o ≡ result → UrlAt xs n) (λ other f m c e. not_so other m c e (named_no other f));
    number = λ b e. not_so (number_kind xs (run_end classes.Digit xs 0) (unit_start xs 0)) _ changes.Keep e (number_no _);
    range = λ b e. not_so kinds.UnicodeRange _ changes.Keep e refl;
    url = λ top b c e. record { top = top; begins = b; close = c; ends = ends_here kinds.Url _ changes.Keep e };
  }

  pub url_in : (xs : List ℕ) (inside : Inside) (before : Before) → piece xs inside before 0 ≡ result → UrlAt xs n
  url_in xs inside before = piece_has xs 0 (λ o. o ≡ result → UrlAt xs n) (url_cases xs) inside before

u_starts : (b : ℕ) → is_u b ≡ true → (starts_plainly b || ((b == sign "\\") || (b == sign "-"))) ≡ true
u_starts b e = grind (arith, nat_tests)

r_no_plus : (b : ℕ) → is_r b ≡ true → (b == sign "+") ≡ false
r_no_plus b e = grind (arith, nat_tests)

calm_hash : (before : Before) → is_calm before ≡ true → after_hash before ≡ false
calm_hash befores.Hash c = absurd (cc)
calm_hash _ c = refl

-- it is the same before any text
module _ (w old after : List ℕ) (closed : (xs : List ℕ) (k : ℕ) → k < length w → (byte (w ++ xs) k == sign "}") ≡ false)
    (shut : (xs : List ℕ) (k : ℕ) → k + 1 < length w → opens_at (w ++ xs) k ≡ false)
    (at : UrlAt (w ++ old) (length w)) where
  abbrev c : Class
  c = url_class at.top

  abbrev first_end : ℕ
  first_end = run_end classes.White (w ++ old) (0 + 4)

  abbrev text_end : ℕ
  text_end = run_end c (w ++ old) first_end

  close_is : run_end classes.White (w ++ old) text_end + 1 ≡ length w
  unfolding url_text_end
  close_is = at.ends

  close_paren : (byte (w ++ old) (run_end classes.White (w ++ old) text_end) == sign ")") ≡ true
  unfolding url_text_end
  close_paren = at.close

  some : 0 < length w
  some = let e = close_is in omega (arith, e)

  text_low : text_end < length w
  text_low = let e = close_is in let f = run_forward (w ++ old) classes.White text_end in omega (arith, e, f)

  first_low : first_end < length w
  first_low = let e = text_low in let f = run_forward (w ++ old) c first_end in omega (arith, e, f)

  long : 4 < length w
  long = let e = first_low in let f = run_forward (w ++ old) classes.White (0 + 4) in omega (arith, e, f)

  old_end : (byte (w ++ old) (length w - 1) == sign ")") ≡ true
  old_end =
      ap (λ (k : ℕ). byte (w ++ old) k == sign ")") (let e = close_is in let z : length w - 1 ≡ run_end classes.White (w ++ old) text_end = omega (arith, e) in z)
      ∙ close_paren

  new_end : (byte (w ++ after) (length w - 1) == sign ")") ≡ true
  new_end = texts.back w old after (λ b. b == sign ")") (length w - 1) (let s = some in omega (arith, s)) ∙ old_end

  module _ (top : Inside) where
    new_text : run_end (url_class top) (w ++ after) first_end ≡ text_end
    new_text =
        let in_url : text_end ≡ run_end classes.Url (w ++ old) first_end =
        same_run w old after (closed old) (shut old) old_end some c classes.Url (url_is at.top) refl first_end text_low in
        let again : run_end classes.Url (w ++ after) first_end ≡ run_end classes.Url (w ++ old) first_end =
        url_again w old after (closed old) (shut old) old_end some first_end (subst (λ (k : ℕ). k < length w) in_url text_low) in
        let low : run_end classes.Url (w ++ after) first_end < length w =
        subst (λ (k : ℕ). k < length w) (in_url ∙ sym again) text_low in
        sym (same_run w after [] (closed after) (shut after) new_end some classes.Url (url_class top) refl (url_is top) first_end low)
        ∙ again ∙ sym in_url

    new_close : url_close (w ++ after) (url_class top) 0 + 1 ≡ length w
    unfolding url_text_end
    new_close =
        ap (λ (k : ℕ). run_end classes.White (w ++ after) (run_end (url_class top) (w ++ after) k) + 1) (white_again w old after (closed old) (shut old) old_end some (0 + 4) first_low)
        ∙ ap (λ (k : ℕ). run_end classes.White (w ++ after) k + 1) new_text
        ∙ ap (λ (k : ℕ). k + 1) (white_again w old after (closed old) (shut old) old_end some text_end (let e = close_is in omega (arith, e)))
        ∙ close_is

  back : (f : ℕ → Bool) (k : ℕ) → k < 4 → f (byte (w ++ after) k) ≡ f (byte (w ++ old) k)
  back f k lt = texts.back w old after f k (let l = long in omega (arith, lt, l))

  begins_here : begins_url (w ++ after) 0 ≡ true
  begins_here =
      let b = at.begins in
      let b1 = and_right (is_u (byte (w ++ old) 0)) _ b in
      let b2 = and_right (is_r (byte (w ++ old) 1)) _ b1 in
      both (is_u (byte (w ++ after) 0)) _ (back is_u 0 (omega arith) ∙ and_left (is_u (byte (w ++ old) 0)) _ b)
      (both (is_r (byte (w ++ after) 1)) _ (back is_r 1 (omega arith) ∙ and_left (is_r (byte (w ++ old) 1)) _ b1)
      (both (is_l (byte (w ++ after) 2)) _ (back is_l 2 (omega arith) ∙ and_left (is_l (byte (w ++ old) 2)) _ b2)
      (back (λ b. b == sign "(") 3 (omega arith) ∙ and_right (is_l (byte (w ++ old) 2)) _ b2)))

  start : Start (byte (w ++ after) 0)
  start = start_by (byte (w ++ after) 0) (u_starts (byte (w ++ after) 0) (and_left (is_u (byte (w ++ after) 0)) _ begins_here))

  pub url_black : is_white (byte w 0) ≡ false
  url_black = ap is_white (sym (byte_before w after 0 some)) ∙ start.white

  pub url_some : 0 < length w
  url_some = some

  url_code : (top : Inside) (before : Before) → is_calm before ≡ true
      → code_piece (w ++ after) top before 0 ≡ made kinds.Url (length w) changes.Keep
  unfolding code_piece word_piece
  url_code top before calm =
      let cs = w ++ after in
      if_false (is_white (byte cs 0)) _ _ start.white
      ∙ if_false (is_quote (byte cs 0)) _ _ start.quote
      ∙ if_false (opens_at cs 0) _ _ (left_no (byte cs 0 == sign "#") _ start.hash)
      ∙ if_false ((byte cs 0 == sign "}") && in_interpolation top) _ _ (left_no (byte cs 0 == sign "}") _ start.brace)
      ∙ if_false (begins_silent cs 0) _ _ (left_no (byte cs 0 == sign "/") _ start.slash)
      ∙ if_false (begins_loud cs 0) _ _ (left_no (byte cs 0 == sign "/") _ start.slash)
      ∙ if_false (after_hash before && is_hex_form cs 0) _ _ (left_no (after_hash before) _ (calm_hash before calm))
      ∙ if_false (begins_number cs 0) _ _
      (neither (is_digit (byte cs 0)) _ start.digit (left_no (byte cs 0 == sign ".") _ start.dot))
      ∙ if_false (not (after_dollar before) && begins_range cs 0) _ _
      (right_no (not (after_dollar before)) _ (right_no (is_u (byte cs 0)) _
      (left_no (byte cs 1 == sign "+") _ (r_no_plus (byte cs 1) (and_left (is_r (byte cs 1)) _ (and_right (is_u (byte cs 0)) _ begins_here))))))
      ∙ if_true (begins_url cs 0 && (byte cs (url_close cs (url_class top) 0) == sign ")")) _ _
      (both (begins_url cs 0) _ begins_here
      (ap (λ (k : ℕ). byte cs k == sign ")") (let e = new_close top in let z : url_close cs (url_class top) 0 ≡ length w - 1 = omega (arith, e) in z) ∙ new_end))
      ∙ ap (λ (k : ℕ). made kinds.Url k changes.Keep) (new_close top)

  pub url_token : (inside : Inside) (before : Before) → is_sheet_code inside ≡ true → is_calm before ≡ true
      → piece (w ++ after) inside before 0 ≡ made kinds.Url (length w) changes.Keep
  url_token insides.Sheet before code calm = url_code insides.Sheet before calm
  url_token insides.Interpolation before code calm = url_code insides.Interpolation before calm
  url_token _ before code calm = absurd (cc)
