-- What a class takes, and runs of it, stand within the text and go forward.
use Rattle.std.proofs.Common.{◌≡◌, ℕ, zero, suc, ◌+◌, ◌-◌, ◌≤◌, ◌<◌, Bool, true, false, not, ◌&&◌, ◌||◌, ◌⊎◌, List, inl, inr, refl, sym, ◌∙◌, ap, subst, arith, length}
use Rattle.std.specs.Prelude.{◌==◌, nat_lt, max, if◌then◌else◌}
use Rattle.std.proofs.lemmas.Bool.Decides.{nat_tests}
use Rattle.std.proofs.lemmas.Option.{slice_get_past}
use Rattle.sw_text_scan.specs.declared.runs.Class.{Class}
use Rattle.sw_text_scan.specs.declared.runs.Class.TheVariants as classes
use Rattle.sw_text_scan.specs.declared.runs.TheConstants.{MOST_HEX_DIGITS}
use Rattle.sw_text_scan.specs.declared.signs.TheConstants.{END, TAB, CARRIAGE_RETURN, LINE_FEED, SPACE}
use Rattle.sw_text_scan.specs.Bytes.{sign, byte, byte_in, is_break, is_white, is_digit, is_hex_digit, starts_plainly, is_name_byte, is_url_byte, is_range_byte, opens_at, ends_loud}
use Rattle.sw_text_scan.specs.Runs.{hex_from, hex_end, white_end, escape_end, text_next, is_word_byte, goes_in_unit, goes_in_url, goes_in_inner_url, next, run_from, run_end}
use Rattle.sw_text_scan.specs.Words.{fraction_end, is_exponent, is_plus_or_minus, exponent_end, unit_end}

lt_or_le : (a b : ℕ) → (a < b) ⊎ (b ≤ a)
lt_or_le a b = grind arith

pub byte_past : (bs : List ℕ) (i : ℕ) → length bs ≤ i → byte bs i ≡ END
unfolding byte
byte_past bs i l = ap byte_in (slice_get_past bs i l)

-- a place whose byte passes a test that the end of the text doesn't pass
pub in_text : (f : ℕ → Bool) (bs : List ℕ) (i : ℕ) → f END ≡ false → f (byte bs i) ≡ true → i < length bs
in_text f bs i e m = elim (lt_or_le i (length bs)) [
  | inl l ↦ l
  | inr l ↦ (let x = subst (λ (b : ℕ). f b ≡ true) (byte_past bs i l) m in absurd (cc))
]

-- a place whose byte is not the end of the text
pub not_end : (bs : List ℕ) (i : ℕ) → (byte bs i == END) ≡ false → i < length bs
not_end bs i m = elim (lt_or_le i (length bs)) [
  | inl l ↦ l
  | inr l ↦ (let x = subst (λ (b : ℕ). (b == END) ≡ false) (byte_past bs i l) m in absurd (cc))
]

pub and_left : (a b : Bool) → (a && b) ≡ true → a ≡ true
and_left true b e = refl
and_left false b e = e

pub and_right : (a b : Bool) → (a && b) ≡ true → b ≡ true
and_right true b e = e
and_right false b e = absurd (cc)

pub or_left : (a b : Bool) → (a || b) ≡ false → a ≡ false
or_left true b e = e
or_left false b e = refl

pub or_right : (a b : Bool) → (a || b) ≡ false → b ≡ false
or_right true b e = absurd (cc)
or_right false b e = e

pub not_true : (a : Bool) → not a ≡ true → a ≡ false
not_true true e = absurd (cc)
not_true false e = refl

pub not_false : (a : Bool) → not a ≡ false → a ≡ true
not_false true e = refl
not_false false e = absurd (cc)

pub if_true : {A : Type 0} (b : Bool) (x y : A) → b ≡ true → (if b then x else y) ≡ x
if_true true x y e = refl
if_true false x y e = absurd (cc)

pub if_false : {A : Type 0} (b : Bool) (x y : A) → b ≡ false → (if b then x else y) ≡ y
if_false true x y e = absurd (cc)
if_false false x y e = refl

-- from i on to j, within the text
pub record Onward (bs : List ℕ) (i j : ℕ) : Type 0 where
  pub forward : i ≤ j
  pub within : j ≤ length bs

module _ {bs : List ℕ} where
  pub stay : {i : ℕ} → i ≤ length bs → Onward bs i i
  stay l = record { forward = omega arith; within = l }

  pub one_on : {i : ℕ} → i < length bs → Onward bs i (i + 1)
  one_on l = record { forward = omega arith; within = omega arith }

  pub two_on : {i : ℕ} → i + 1 < length bs → Onward bs i (i + 2)
  two_on l = record { forward = omega arith; within = omega arith }

  pub then_on : {i j k : ℕ} → Onward bs i j → Onward bs j k → Onward bs i k
  then_on a b = let x = a.forward in let y = b.forward in record { forward = omega arith; within = b.within }

  pub choose : {i : ℕ} (b : Bool) (x y : ℕ) → (b ≡ true → Onward bs i x) → (b ≡ false → Onward bs i y) → Onward bs i (if b then x else y)
  choose true x y f g = f refl
  choose false x y f g = g refl

module _ (bs : List ℕ) where
  -- one byte that passes
  passed : (f : ℕ → Bool) (i : ℕ) → f END ≡ false → i ≤ length bs → Onward bs i (if f (byte bs i) then i + 1 else i)
  passed f i e l = choose (f (byte bs i)) (i + 1) i (λ m. one_on (in_text f bs i e m)) (λ _. stay l)

  pub hex_from_onward : (n i : ℕ) → i ≤ length bs → Onward bs i (hex_from bs n i)
  hex_from_onward zero i l = stay l
  hex_from_onward (suc n) i l =
      choose (is_hex_digit (byte bs i)) (hex_from bs n (i + 1)) i
      (λ m. let lt = in_text is_hex_digit bs i refl m in then_on (one_on lt) (hex_from_onward n (i + 1) (omega arith)))
      (λ _. stay l)

  pub hex_onward : (i : ℕ) → i ≤ length bs → Onward bs i (hex_end bs i)
  unfolding hex_end
  hex_onward i l = hex_from_onward MOST_HEX_DIGITS i l

  pub white_onward : (i : ℕ) → i ≤ length bs → Onward bs i (white_end bs i)
  white_onward i l =
      choose ((byte bs i == CARRIAGE_RETURN) && (byte bs (i + 1) == LINE_FEED)) (i + 2) (if is_white (byte bs i) then i + 1 else i)
      (λ m. two_on (in_text (λ b. b == LINE_FEED) bs (i + 1) refl (and_right (byte bs i == CARRIAGE_RETURN) (byte bs (i + 1) == LINE_FEED) m)))
      (λ _. passed is_white i refl l)

  pub escape_onward : (i : ℕ) → i ≤ length bs → Onward bs i (escape_end bs i)
  unfolding escape_end
  escape_onward i l =
      choose (not (byte bs i == sign "\\")) i _ (λ _. stay l)
      (λ _. choose (is_hex_digit (byte bs (i + 1))) (white_end bs (hex_end bs (i + 1))) _
      (λ m. let lt = in_text is_hex_digit bs (i + 1) refl m in
      let hex = hex_onward (i + 1) (omega arith) in
      then_on (one_on (omega arith)) (then_on hex (white_onward (hex_end bs (i + 1)) hex.within)))
      (λ _. choose (is_break (byte bs (i + 1)) || (byte bs (i + 1) == END)) i (i + 2) (λ _. stay l)
      (λ m. two_on (not_end bs (i + 1) (or_right (is_break (byte bs (i + 1))) (byte bs (i + 1) == END) m)))))

  pub text_onward : (q i : ℕ) → i ≤ length bs → Onward bs i (text_next bs q i)
  unfolding text_next
  text_onward q i l =
      choose ((byte bs i == q) || (is_break (byte bs i) || (byte bs i == END))) i _ (λ _. stay l)
      (λ m. let lt = not_end bs i (or_right (is_break (byte bs i)) (byte bs i == END) (or_right (byte bs i == q) (is_break (byte bs i) || (byte bs i == END)) m)) in
      choose (not (byte bs i == sign "\\")) (i + 1) _ (λ _. one_on lt)
      (λ _. choose (is_break (byte bs (i + 1))) (white_end bs (i + 1)) _ (λ _. then_on (one_on lt) (white_onward (i + 1) (omega arith)))
      (λ _. choose (byte bs (i + 1) == END) (i + 1) (escape_end bs i) (λ _. one_on lt) (λ _. escape_onward i l))))

  pub next_onward : (c : Class) (i : ℕ) → i ≤ length bs → Onward bs i (next c bs i)
  next_onward classes.White i l = passed is_white i refl l
  next_onward classes.Commas i l = passed (λ b. is_white b || (b == sign ",")) i refl l
  next_onward classes.Digit i l = passed is_digit i refl l
  next_onward classes.HexDigit i l = passed is_hex_digit i refl l
  next_onward classes.Word i l = passed is_word_byte i refl l
  next_onward classes.Name i l =
      choose (is_name_byte (byte bs i)) (i + 1) (escape_end bs i) (λ m. one_on (in_text is_name_byte bs i refl m)) (λ _. escape_onward i l)
  next_onward classes.Unit i l =
      choose (goes_in_unit bs i) (i + 1) (escape_end bs i)
      (λ m. one_on (unit_in i m)) (λ _. escape_onward i l)
    where
      loosen : (a b c d : Bool) → (a || (b || (c && d))) ≡ true → (a || (b || c)) ≡ true
      loosen true b c d e = refl
      loosen false true c d e = refl
      loosen false false true d e = refl
      loosen false false false d e = e

      unit_in : (i : ℕ) → goes_in_unit bs i ≡ true → i < length bs
      unit_in i m = in_text (λ b. starts_plainly b || (is_digit b || (b == sign "-"))) bs i refl (loosen (starts_plainly (byte bs i)) (is_digit (byte bs i)) (byte bs i == sign "-") (starts_plainly (byte bs (i + 1))) m)
  next_onward (classes.Text q) i l = text_onward q i l
  next_onward (classes.SheetText q) i l = choose (opens_at bs i) i (text_next bs q i) (λ _. stay l) (λ _. text_onward q i l)
  next_onward classes.Url i l =
      choose (goes_in_url bs i) (i + 1) (escape_end bs i)
      (λ m. one_on (in_text is_url_byte bs i refl (and_left (is_url_byte (byte bs i)) (not (opens_at bs i)) m))) (λ _. escape_onward i l)
  next_onward classes.UrlInside i l =
      choose (goes_in_inner_url bs i) (i + 1) (escape_end bs i)
      (λ m. one_on (in_text is_url_byte bs i refl (and_left (is_url_byte (byte bs i)) (not (byte bs i == sign "}")) (and_left (is_url_byte (byte bs i) && not (byte bs i == sign "}")) (not (opens_at bs i)) m))))
      (λ _. escape_onward i l)
  next_onward classes.Range i l = passed is_range_byte i refl l
  next_onward classes.Plain i l = choose ((byte bs i == sign "\\") || (byte bs i == END)) i (i + 1) (λ _. stay l) (λ m. one_on (not_end bs i (or_right (byte bs i == sign "\\") (byte bs i == END) m)))
  next_onward classes.Line i l =
      choose (is_break (byte bs i) || (byte bs i == END)) i (i + 1) (λ _. stay l) (λ m. one_on (not_end bs i (or_right (is_break (byte bs i)) (byte bs i == END) m)))
  next_onward classes.Comment i l =
      choose (ends_loud bs i || (opens_at bs i || (byte bs i == END))) i (i + 1) (λ _. stay l)
      (λ m. one_on (not_end bs i (or_right (opens_at bs i) (byte bs i == END) (or_right (ends_loud bs i) (opens_at bs i || (byte bs i == END)) m))))
  next_onward classes.CssUrl i l = choose (is_url_byte (byte bs i)) (i + 1) (escape_end bs i) (λ m. one_on (in_text is_url_byte bs i refl m)) (λ _. escape_onward i l)
  next_onward classes.CssComment i l =
      choose (ends_loud bs i || (byte bs i == END)) i (i + 1) (λ _. stay l) (λ m. one_on (not_end bs i (or_right (ends_loud bs i) (byte bs i == END) m)))
  next_onward classes.CommentLine i l =
      choose (is_break (byte bs i)) i _ (λ _. stay l)
      (λ _. choose (ends_loud bs i || (opens_at bs i || (byte bs i == END))) i (i + 1) (λ _. stay l)
      (λ m. one_on (not_end bs i (or_right (opens_at bs i) (byte bs i == END) (or_right (ends_loud bs i) (opens_at bs i || (byte bs i == END)) m)))))
  next_onward classes.Blank i l = passed (λ b. (b == SPACE) || (b == TAB)) i refl l
  next_onward classes.Space i l = passed (λ b. b == SPACE) i refl l
  next_onward classes.Tab i l = passed (λ b. b == TAB) i refl l

  -- past the text nothing is taken
  past_byte : {A : Type 0} (f : ℕ → A) (i : ℕ) → length bs ≤ i → f (byte bs i) ≡ f END
  past_byte f i l = ap f (byte_past bs i l)

  escape_past : (i : ℕ) → length bs ≤ i → escape_end bs i ≡ i
  unfolding escape_end
  escape_past i l = past_byte (λ b. if not (b == sign "\\") then i else (if is_hex_digit (byte bs (i + 1)) then white_end bs (hex_end bs (i + 1)) else (if is_break (byte bs (i + 1)) || (byte bs (i + 1) == END) then i else i + 2))) i l

  text_past : (q i : ℕ) → length bs ≤ i → text_next bs q i ≡ i
  unfolding text_next
  text_past q i l =
      if_true ((byte bs i == q) || (is_break (byte bs i) || (byte bs i == END))) i _
      (or_in (byte bs i == q) (is_break (byte bs i) || (byte bs i == END)) (past_byte (λ b. is_break b || (b == END)) i l))
    where
      or_in : (a b : Bool) → b ≡ true → (a || b) ≡ true
      or_in true b e = refl
      or_in false b e = e

  pub next_past : (c : Class) (i : ℕ) → length bs ≤ i → next c bs i ≡ i
  next_past classes.White i l = past_byte (λ b. if is_white b then i + 1 else i) i l
  next_past classes.Commas i l = past_byte (λ b. if is_white b || (b == sign ",") then i + 1 else i) i l
  next_past classes.Digit i l = past_byte (λ b. if is_digit b then i + 1 else i) i l
  next_past classes.HexDigit i l = past_byte (λ b. if is_hex_digit b then i + 1 else i) i l
  next_past classes.Word i l = past_byte (λ b. if is_word_byte b then i + 1 else i) i l
  next_past classes.Name i l = past_byte (λ b. if is_name_byte b then i + 1 else escape_end bs i) i l ∙ escape_past i l
  next_past classes.Unit i l =
      past_byte (λ b. if starts_plainly b || (is_digit b || ((b == sign "-") && starts_plainly (byte bs (i + 1)))) then i + 1 else escape_end bs i) i l
      ∙ escape_past i l
  next_past (classes.Text q) i l = text_past q i l
  next_past (classes.SheetText q) i l =
      past_byte (λ b. if (b == sign "#") && (byte bs (i + 1) == sign "{") then i else text_next bs q i) i l ∙ text_past q i l
  next_past classes.Url i l = past_byte (λ b. if is_url_byte b && not (opens_at bs i) then i + 1 else escape_end bs i) i l ∙ escape_past i l
  next_past classes.UrlInside i l =
      past_byte (λ b. if (is_url_byte b && not (b == sign "}")) && not (opens_at bs i) then i + 1 else escape_end bs i) i l ∙ escape_past i l
  next_past classes.Range i l = past_byte (λ b. if is_range_byte b then i + 1 else i) i l
  next_past classes.Plain i l = past_byte (λ b. if (b == sign "\\") || (b == END) then i else i + 1) i l
  next_past classes.Line i l = past_byte (λ b. if is_break b || (b == END) then i else i + 1) i l
  next_past classes.Comment i l =
      past_byte (λ b. if ((b == sign "*") && (byte bs (i + 1) == sign "/")) || (((b == sign "#") && (byte bs (i + 1) == sign "{")) || (b == END)) then i else i + 1) i l
  next_past classes.CssUrl i l = past_byte (λ b. if is_url_byte b then i + 1 else escape_end bs i) i l ∙ escape_past i l
  next_past classes.CssComment i l =
      past_byte (λ b. if ((b == sign "*") && (byte bs (i + 1) == sign "/")) || (b == END) then i else i + 1) i l
  next_past classes.CommentLine i l =
      past_byte (λ b. if is_break b then i else (if ((b == sign "*") && (byte bs (i + 1) == sign "/")) || (((b == sign "#") && (byte bs (i + 1) == sign "{")) || (b == END)) then i else i + 1)) i l
  next_past classes.Blank i l = past_byte (λ b. if (b == SPACE) || (b == TAB) then i + 1 else i) i l
  next_past classes.Space i l = past_byte (λ b. if b == SPACE then i + 1 else i) i l
  next_past classes.Tab i l = past_byte (λ b. if b == TAB then i + 1 else i) i l

  -- what takes something stands in the text
  pub next_from : (c : Class) (i : ℕ) → i < next c bs i → i < length bs
  next_from c i lt = elim (lt_or_le i (length bs)) [
    | inl l ↦ l
    | inr l ↦ (let none = next_past c i l in absurd (omega arith))
  ]

  run_from_onward : (c : Class) (n i : ℕ) → i ≤ length bs → Onward bs i (run_from c bs n i)
  run_from_onward c zero i l = stay l
  run_from_onward c (suc n) i l =
      choose (nat_lt i (next c bs i)) (run_from c bs n (next c bs i)) i
      (λ _. let on = next_onward c i l in then_on on (run_from_onward c n (next c bs i) on.within)) (λ _. stay l)

  pub run_onward : (c : Class) (i : ℕ) → i ≤ length bs → Onward bs i (run_end c bs i)
  unfolding run_end
  run_onward c i l = run_from_onward c (length bs - i) i l

  -- the fuel never matters
  run_fuel : (c : Class) (n m i : ℕ) → i ≤ length bs → length bs ≤ n + i → length bs ≤ m + i → run_from c bs n i ≡ run_from c bs m i
  run_fuel c zero zero i l a b = refl
  run_fuel c zero (suc m) i l a b = sym (if_false (nat_lt i (next c bs i)) (run_from c bs m (next c bs i)) i (let on = (next_onward c i l).within in grind (arith, nat_tests)))
  run_fuel c (suc n) zero i l a b = if_false (nat_lt i (next c bs i)) (run_from c bs n (next c bs i)) i (let on = (next_onward c i l).within in grind (arith, nat_tests))
  run_fuel c (suc n) (suc m) i l a b =
      both (nat_lt i (next c bs i)) refl
      (λ e. let on = next_onward c i l in let lt : i < next c bs i = grind (arith, nat_tests) in run_fuel c n m (next c bs i) on.within (omega arith) (omega arith))
    where
      both : (t : Bool) → nat_lt i (next c bs i) ≡ t → (nat_lt i (next c bs i) ≡ true → run_from c bs n (next c bs i) ≡ run_from c bs m (next c bs i))
          → (if t then run_from c bs n (next c bs i) else i) ≡ (if t then run_from c bs m (next c bs i) else i)
      both true e ih = ih e
      both false e ih = refl

  pub run_step : (c : Class) (i : ℕ) → i < next c bs i → run_end c bs (next c bs i) ≡ run_end c bs i
  unfolding run_end
  run_step c i lt =
      let from = next_from c i lt in
      let on = next_onward c i (omega arith) in
      let within : next c bs i ≤ length bs = on.within in
      run_fuel c (length bs - next c bs i) (length bs - suc i) (next c bs i) within (omega arith) (omega arith)
      ∙ sym (ap (λ (n : ℕ). run_from c bs n i) (one_less (omega arith)) ∙ if_true (nat_lt i (next c bs i)) (run_from c bs (length bs - suc i) (next c bs i)) i (grind (arith, nat_tests)))
    where
      one_less : i < length bs → length bs - i ≡ suc (length bs - suc i)
      one_less h = omega arith

  pub run_stop : (c : Class) (i : ℕ) → next c bs i ≤ i → run_end c bs i ≡ i
  unfolding run_end
  run_stop c i l = go (length bs - i)
    where
      go : (n : ℕ) → run_from c bs n i ≡ i
      go zero = refl
      go (suc n) = if_false (nat_lt i (next c bs i)) (run_from c bs n (next c bs i)) i (grind (arith, nat_tests))

  -- one hexadecimal digit more
  pub hex_step : (n i : ℕ) → 0 < n → is_hex_digit (byte bs i) ≡ true → hex_from bs (n - 1) (i + 1) ≡ hex_from bs n i
  hex_step zero i z m = absurd (omega arith)
  hex_step (suc n) i z m = ap (λ (k : ℕ). hex_from bs k (i + 1)) less ∙ sym (if_true (is_hex_digit (byte bs i)) (hex_from bs n (i + 1)) i m)
    where
      less : suc n - 1 ≡ n
      less = omega arith

  pub hex_stop : (n i : ℕ) → is_hex_digit (byte bs i) ≡ false → hex_from bs n i ≡ i
  hex_stop zero i m = refl
  hex_stop (suc n) i m = if_false (is_hex_digit (byte bs i)) (hex_from bs n (i + 1)) i m

  -- for goals about places
  pub hex_end_within : (i : ℕ) → i ≤ length bs → hex_end bs i ≤ length bs
  hex_end_within i l = (hex_onward i l).within

  pub next_within : (c : Class) (i : ℕ) → i ≤ length bs → next c bs i ≤ length bs
  next_within c i l = (next_onward c i l).within

  pub run_within : (c : Class) (i : ℕ) → i ≤ length bs → run_end c bs i ≤ length bs
  run_within c i l = (run_onward c i l).within

  pub next_below : (c : Class) (i : ℕ) → next c bs i ≤ max i (length bs)
  next_below c i = elim (lt_or_le i (length bs)) [
    | inl l ↦ (let w = next_within c i (omega arith) in omega arith)
    | inr l ↦ (let none = next_past c i l in omega arith)
  ]

  pub run_past : (c : Class) (i : ℕ) → length bs ≤ i → run_end c bs i ≡ i
  run_past c i l = run_stop c i (let none = next_past c i l in omega arith)

  pub run_below : (c : Class) (i : ℕ) → run_end c bs i ≤ max i (length bs)
  run_below c i = elim (lt_or_le i (length bs)) [
    | inl l ↦ (let w = run_within c i (omega arith) in omega arith)
    | inr l ↦ (let none = run_past c i l in omega arith)
  ]

  pub run_forward : (c : Class) (i : ℕ) → i ≤ run_end c bs i
  run_forward c i = elim (lt_or_le i (length bs)) [
    | inl l ↦ (run_onward c i (omega arith)).forward
    | inr l ↦ (let none = run_past c i l in omega arith)
  ]

  pub fraction_onward : (i : ℕ) → i ≤ length bs → Onward bs i (fraction_end bs i)
  fraction_onward i l =
      choose ((byte bs i == sign ".") && is_digit (byte bs (i + 1))) (run_end classes.Digit bs (i + 1)) i
      (λ m. let lt = in_text is_digit bs (i + 1) refl (and_right (byte bs i == sign ".") (is_digit (byte bs (i + 1))) m) in
      then_on (one_on (omega arith)) (run_onward classes.Digit (i + 1) (omega arith)))
      (λ _. stay l)

  pub exponent_onward : (i : ℕ) → i ≤ length bs → Onward bs i (exponent_end bs i)
  exponent_onward i l =
      choose (is_exponent (byte bs i) && is_digit (byte bs (i + 1))) (run_end classes.Digit bs (i + 1)) _
      (λ m. let lt = in_text is_digit bs (i + 1) refl (and_right (is_exponent (byte bs i)) (is_digit (byte bs (i + 1))) m) in
      then_on (one_on (omega arith)) (run_onward classes.Digit (i + 1) (omega arith)))
      (λ _. choose (is_exponent (byte bs i) && (is_plus_or_minus (byte bs (i + 1)) && is_digit (byte bs (i + 2)))) (run_end classes.Digit bs (i + 2)) i
      (λ m. let lt = in_text is_digit bs (i + 2) refl (and_right (is_plus_or_minus (byte bs (i + 1))) (is_digit (byte bs (i + 2))) (and_right (is_exponent (byte bs i)) (is_plus_or_minus (byte bs (i + 1)) && is_digit (byte bs (i + 2))) m)) in
      then_on (two_on (omega arith)) (run_onward classes.Digit (i + 2) (omega arith)))
      (λ _. stay l))

  pub unit_onward : (i : ℕ) → i ≤ length bs → Onward bs i (unit_end bs i)
  unit_onward i l =
      choose (byte bs i == sign "%") (i + 1) _ (λ m. one_on (in_text (λ b. b == sign "%") bs i refl m))
      (λ _. choose (starts_plainly (byte bs i)) (run_end classes.Unit bs i) i (λ _. run_onward classes.Unit i l) (λ _. stay l))

  pub fraction_within : (i : ℕ) → i ≤ length bs → fraction_end bs i ≤ length bs
  fraction_within i l = (fraction_onward i l).within

  pub exponent_within : (i : ℕ) → i ≤ length bs → exponent_end bs i ≤ length bs
  exponent_within i l = (exponent_onward i l).within
