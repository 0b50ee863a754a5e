-- Before a line feed, runs, names, numbers and urls reach as far as before a space.
use Rattle.std.proofs.Common.{◌≡◌, ◌⊎◌, inl, inr, ℕ, zero, suc, ◌+◌, ◌-◌, Bool, true, false, not, ◌&&◌, ◌||◌, if◌then◌else◌, List, [], ◌∷◌, ◌++◌, length, refl, sym, ◌∙◌, ap, arith, length-append}
use Rattle.std.specs.Prelude.{◌==◌, nat_lt}
use Rattle.std.proofs.lemmas.Bool.Decides.{nat_tests}
use Rattle.sw_text_scan.specs.declared.runs.Class.{Class}
use Rattle.sw_text_scan.specs.declared.runs.Class.TheVariants as classes
use Rattle.sw_text_scan.specs.declared.runs.TheConstants.{MOST_HEX_DIGITS}
use Rattle.sw_text_scan.specs.declared.signs.TheConstants.{END, CARRIAGE_RETURN, LINE_FEED}
use Rattle.sw_text_scan.specs.Bytes.{sign, byte, is_break, is_white, is_digit, is_hex_digit, starts_plainly, is_name_byte, is_url_byte, is_range_byte, opens_at, begins_silent, begins_loud, ends_loud}
use Rattle.sw_text_scan.specs.Runs.{hex_from, hex_end, white_end, escape_end, is_word_byte, next, run_from, run_end, starts_at, begins_name}
use Rattle.sw_text_scan.specs.Words.{fraction_end, is_exponent, is_plus_or_minus, exponent_end, unit_end, begins_number, unit_start, is_u, is_r, is_l, begins_range, begins_url, url_text_end, url_close}
use Rattle.sw_text_scan.proofs.Bounds.{if_true}
use Rattle.sw_convert_laid.specs.LineFeeds.{joins_line, ends_plainly}

pub either_same : (a b x y : Bool) → a ≡ x → b ≡ y → (a || b) ≡ (x || y)
either_same a b x y e f = ap (λ (t : Bool). t || b) e ∙ ap (λ (t : Bool). x || t) f

pub both_same : (a b x y : Bool) → a ≡ x → b ≡ y → (a && b) ≡ (x && y)
both_same a b x y e f = ap (λ (t : Bool). t && b) e ∙ ap (λ (t : Bool). x && t) f

pub pick : {A : Type 0} (t u : Bool) (a b x y : A) → t ≡ u → a ≡ x → b ≡ y → (if t then a else b) ≡ (if u then x else y)
pick true true a b x y e f g = f
pick false false a b x y e f g = g
pick true false a b x y e f g = absurd (cc)
pick false true a b x y e f g = absurd (cc)

-- classes that tell no space from a line feed
abbrev pub is_even : Class → Bool
is_even classes.White = true
is_even classes.Digit = true
is_even classes.HexDigit = true
is_even classes.Word = true
is_even classes.Name = true
is_even classes.Unit = true
is_even classes.Url = true
is_even classes.UrlInside = true
is_even classes.Range = true
is_even classes.Comment = true
is_even _ = false

module _ (r : List ℕ) where
  byte_cases_of : (w : List ℕ) (i : ℕ)
      → (byte (w ++ 10 ∷ r) i ≡ byte (w ++ 32 ∷ r) i) ⊎ ((byte (w ++ 32 ∷ r) i ≡ 32) × (byte (w ++ 10 ∷ r) i ≡ 10) × (i ≡ length w))
  unfolding byte
  byte_cases_of [] zero = inr (refl, refl, refl)
  byte_cases_of [] (suc i) = inl refl
  byte_cases_of (x ∷ w) zero = inl refl
  byte_cases_of (x ∷ w) (suc i) = go (byte_cases_of w i)
    where
      go : (byte (w ++ 10 ∷ r) i ≡ byte (w ++ 32 ∷ r) i) ⊎ ((byte (w ++ 32 ∷ r) i ≡ 32) × (byte (w ++ 10 ∷ r) i ≡ 10) × (i ≡ length w))
          → (byte (x ∷ (w ++ 10 ∷ r)) (suc i) ≡ byte (x ∷ (w ++ 32 ∷ r)) (suc i))
          ⊎ ((byte (x ∷ (w ++ 32 ∷ r)) (suc i) ≡ 32) × (byte (x ∷ (w ++ 10 ∷ r)) (suc i) ≡ 10) × (suc i ≡ length (x ∷ w)))
      go (inl e) = inl e
      go (inr (e, f, g)) = inr (e, f, ap (λ (k : ℕ). suc k) g)

  -- no byte that goes on over the end of a line stands before it
  near_of : (w : List ℕ) (i : ℕ) → ends_plainly w ≡ true → joins_line (byte (w ++ 32 ∷ r) i) ≡ true
      → byte (w ++ 10 ∷ r) (suc i) ≡ byte (w ++ 32 ∷ r) (suc i)
  unfolding byte
  near_of [] zero plain joins = absurd (let wrong : false ≡ true = joins in cc)
  near_of [] (suc i) plain joins = refl
  near_of (x ∷ []) zero plain joins = absurd (contrary (joins_line x) joins plain)
    where
      contrary : (t : Bool) → t ≡ true → not t ≡ true → ⊥
      contrary true e f = absurd (cc)
      contrary false e f = absurd (cc)
  near_of (x ∷ []) (suc zero) plain joins = refl
  near_of (x ∷ []) (suc (suc i)) plain joins = refl
  near_of (x ∷ y ∷ w) zero plain joins = refl
  near_of (x ∷ y ∷ w) (suc i) plain joins = near_of (y ∷ w) i plain joins

  module _ (w : List ℕ) (plain : ends_plainly w ≡ true) where
    abbrev bs : List ℕ
    bs = w ++ 32 ∷ r

    abbrev cs : List ℕ
    cs = w ++ 10 ∷ r

    abbrev n : ℕ
    n = length w

    pub cases : (i : ℕ) → (byte cs i ≡ byte bs i) ⊎ ((byte bs i ≡ 32) × (byte cs i ≡ 10) × (i ≡ n))
    cases i = byte_cases_of w i

    pub one : {A : Type 0} (f : ℕ → A) → f 32 ≡ f 10 → (i : ℕ) → f (byte cs i) ≡ f (byte bs i)
    one f e i = go (cases i)
      where
        go : (byte cs i ≡ byte bs i) ⊎ ((byte bs i ≡ 32) × (byte cs i ≡ 10) × (i ≡ n)) → f (byte cs i) ≡ f (byte bs i)
        go (inl same) = ap f same
        go (inr (b, c, at)) = ap f c ∙ sym e ∙ ap f (sym b)

    near : (i : ℕ) → joins_line (byte bs i) ≡ true → byte cs (i + 1) ≡ byte bs (i + 1)
    near i joins =
        ap (byte cs) (let e : i + 1 ≡ suc i = omega arith in e) ∙ near_of w i plain joins
        ∙ ap (byte bs) (let e : suc i ≡ i + 1 = omega arith in e)

    pub two : (f g : ℕ → Bool) → f 32 ≡ f 10 → g 32 ≡ g 10 → (i : ℕ)
        → (f (byte cs i) && g (byte cs (i + 1))) ≡ (f (byte bs i) && g (byte bs (i + 1)))
    two f g e h i = both_same (f (byte cs i)) (g (byte cs (i + 1))) (f (byte bs i)) (g (byte bs (i + 1))) (one f e i) (one g h (i + 1))

    pub opens_same : (i : ℕ) → opens_at cs i ≡ opens_at bs i
    opens_same i = two (λ b. b == sign "#") (λ b. b == sign "{") refl refl i

    pub ends_same : (i : ℕ) → ends_loud cs i ≡ ends_loud bs i
    ends_same i = two (λ b. b == sign "*") (λ b. b == sign "/") refl refl i

    pub silent_same : (i : ℕ) → begins_silent cs i ≡ begins_silent bs i
    silent_same i = two (λ b. b == sign "/") (λ b. b == sign "/") refl refl i

    pub loud_same : (i : ℕ) → begins_loud cs i ≡ begins_loud bs i
    loud_same i = two (λ b. b == sign "/") (λ b. b == sign "*") refl refl i

    -- escapes
    hex_same : (k i : ℕ) → hex_from cs k i ≡ hex_from bs k i
    hex_same zero i = refl
    hex_same (suc k) i =
        pick (is_hex_digit (byte cs i)) (is_hex_digit (byte bs i)) (hex_from cs k (i + 1)) i (hex_from bs k (i + 1)) i
        (one is_hex_digit refl i) (hex_same k (i + 1)) refl

    hex_end_same : (i : ℕ) → hex_end cs i ≡ hex_end bs i
    unfolding hex_end
    hex_end_same i = hex_same MOST_HEX_DIGITS i

    feed_same : (i : ℕ)
        → ((byte cs i == CARRIAGE_RETURN) && (byte cs (i + 1) == LINE_FEED))
        ≡ ((byte bs i == CARRIAGE_RETURN) && (byte bs (i + 1) == LINE_FEED))
    feed_same i = go (byte bs i == CARRIAGE_RETURN) refl
      where
        return : byte bs i ≡ CARRIAGE_RETURN → joins_line (byte bs i) ≡ true
        return e = ap joins_line e

        is_equal : (a b : ℕ) → (a == b) ≡ true → a ≡ b
        is_equal a b e = grind (arith, nat_tests)

        go : (t : Bool) → (byte bs i == CARRIAGE_RETURN) ≡ t
            → ((byte cs i == CARRIAGE_RETURN) && (byte cs (i + 1) == LINE_FEED))
            ≡ ((byte bs i == CARRIAGE_RETURN) && (byte bs (i + 1) == LINE_FEED))
        go true e =
            both_same _ _ _ _ (one (λ b. b == CARRIAGE_RETURN) refl i)
            (ap (λ b. b == LINE_FEED) (near i (return (is_equal (byte bs i) CARRIAGE_RETURN e))))
        go false e =
            ap (λ (t : Bool). t && (byte cs (i + 1) == LINE_FEED)) (one (λ b. b == CARRIAGE_RETURN) refl i ∙ e)
            ∙ sym (ap (λ (t : Bool). t && (byte bs (i + 1) == LINE_FEED)) e)

    pub white_end_same : (i : ℕ) → white_end cs i ≡ white_end bs i
    white_end_same i =
        pick _ ((byte bs i == CARRIAGE_RETURN) && (byte bs (i + 1) == LINE_FEED)) _ _ (i + 2) (if is_white (byte bs i) then i + 1 else i)
        (feed_same i) refl (pick _ (is_white (byte bs i)) _ _ (i + 1) i (one is_white refl i) refl refl)

    -- behind the sign of an escape stands the same
    pub slashed : (i : ℕ) → (byte bs i == sign "\\") ≡ true → byte cs (i + 1) ≡ byte bs (i + 1)
    slashed i e = near i (joins (byte bs i) e)
      where
        joins : (b : ℕ) → (b == sign "\\") ≡ true → joins_line b ≡ true
        joins b e = grind (arith, nat_tests)

    pub escape_same : (i : ℕ) → escape_end cs i ≡ escape_end bs i
    unfolding escape_end
    escape_same i = go (byte bs i == sign "\\") refl
      where
        go : (t : Bool) → (byte bs i == sign "\\") ≡ t
            → (if not (byte cs i == sign "\\") then i
            else (if is_hex_digit (byte cs (i + 1)) then white_end cs (hex_end cs (i + 1))
            else (if is_break (byte cs (i + 1)) || (byte cs (i + 1) == END) then i else i + 2)))
            ≡ (if not (byte bs i == sign "\\") then i
            else (if is_hex_digit (byte bs (i + 1)) then white_end bs (hex_end bs (i + 1))
            else (if is_break (byte bs (i + 1)) || (byte bs (i + 1) == END) then i else i + 2)))
        go false e =
            if_true (not (byte cs i == sign "\\")) i _ (one (λ b. not (b == sign "\\")) refl i ∙ ap not e)
            ∙ sym (if_true (not (byte bs i == sign "\\")) i _ (ap not e))
        go true e =
            pick _ (not (byte bs i == sign "\\")) _ _ i (if is_hex_digit (byte bs (i + 1)) then white_end bs (hex_end bs (i + 1)) else (if is_break (byte bs (i + 1)) || (byte bs (i + 1) == END) then i else i + 2))
            (one (λ b. not (b == sign "\\")) refl i) refl
            (pick _ (is_hex_digit (byte bs (i + 1))) _ _ (white_end bs (hex_end bs (i + 1))) (if is_break (byte bs (i + 1)) || (byte bs (i + 1) == END) then i else i + 2)
            (one is_hex_digit refl (i + 1)) (ap (white_end cs) (hex_end_same (i + 1)) ∙ white_end_same (hex_end bs (i + 1)))
            (ap (λ (b : ℕ). if is_break b || (b == END) then i else i + 2) (slashed i e)))

    taken : (t u : Bool) (i : ℕ) → t ≡ u → (if t then i + 1 else i) ≡ (if u then i + 1 else i)
    taken t u i e = ap (λ (x : Bool). if x then i + 1 else i) e

    escaped : (t u : Bool) (i : ℕ) → t ≡ u → (if t then i + 1 else escape_end cs i) ≡ (if u then i + 1 else escape_end bs i)
    escaped t u i e = pick t u (i + 1) (escape_end cs i) (i + 1) (escape_end bs i) e refl (escape_same i)

    pub next_same : (c : Class) → is_even c ≡ true → (i : ℕ) → next c cs i ≡ next c bs i
    next_same classes.White k i = taken _ _ i (one is_white refl i)
    next_same classes.Digit k i = taken _ _ i (one is_digit refl i)
    next_same classes.HexDigit k i = taken _ _ i (one is_hex_digit refl i)
    next_same classes.Word k i = taken _ _ i (one is_word_byte refl i)
    next_same classes.Name k i = escaped _ _ i (one is_name_byte refl i)
    next_same classes.Unit k i =
        escaped _ _ i (either_same _ _ _ _ (one starts_plainly refl i) (either_same _ _ _ _ (one is_digit refl i) (two (λ b. b == sign "-") starts_plainly refl refl i)))
    next_same classes.Url k i = escaped _ _ i (both_same _ _ _ _ (one is_url_byte refl i) (ap not (opens_same i)))
    next_same classes.UrlInside k i =
        escaped _ _ i (both_same _ _ _ _ (one (λ b. is_url_byte b && not (b == sign "}")) refl i) (ap not (opens_same i)))
    next_same classes.Range k i = taken _ _ i (one is_range_byte refl i)
    next_same classes.Comment k i =
        ap (λ (x : Bool). if x then i else i + 1)
        (either_same _ _ _ _ (ends_same i) (either_same _ _ _ _ (opens_same i) (one (λ b. b == END) refl i)))
    next_same _ k i = absurd (cc)

    run_from_same : (c : Class) → is_even c ≡ true → (f i : ℕ) → run_from c cs f i ≡ run_from c bs f i
    run_from_same c k zero i = refl
    run_from_same c k (suc f) i =
        pick (nat_lt i (next c cs i)) (nat_lt i (next c bs i)) (run_from c cs f (next c cs i)) i (run_from c bs f (next c bs i)) i
        (ap (nat_lt i) (next_same c k i)) (ap (run_from c cs f) (next_same c k i) ∙ run_from_same c k f (next c bs i)) refl

    pub as_long : length cs ≡ length bs
    as_long = let e = length-append w (32 ∷ r) in let f = length-append w (10 ∷ r) in omega (arith, e, f)

    pub run_same : (c : Class) → is_even c ≡ true → (i : ℕ) → run_end c cs i ≡ run_end c bs i
    unfolding run_end
    run_same c k i = ap (λ (l : ℕ). run_from c cs (l - i) i) as_long ∙ run_from_same c k (length bs - i) i

    pub starts_same : (i : ℕ) → starts_at cs i ≡ starts_at bs i
    starts_same i = either_same _ _ _ _ (one starts_plainly refl i) (ap (nat_lt i) (escape_same i))

    pub name_same : (i : ℕ) → begins_name cs i ≡ begins_name bs i
    unfolding begins_name
    name_same i =
        either_same _ _ _ _ (starts_same i)
        (both_same _ _ _ _ (one (λ b. b == sign "-") refl i)
        (either_same _ _ _ _ (starts_same (i + 1)) (one (λ b. b == sign "-") refl (i + 1))))

    -- numbers
    fraction_same : (i : ℕ) → fraction_end cs i ≡ fraction_end bs i
    fraction_same i =
        pick _ ((byte bs i == sign ".") && is_digit (byte bs (i + 1))) _ _ (run_end classes.Digit bs (i + 1)) i
        (two (λ b. b == sign ".") is_digit refl refl i) (run_same classes.Digit refl (i + 1)) refl

    exponent_same : (i : ℕ) → exponent_end cs i ≡ exponent_end bs i
    exponent_same i =
        pick _ (is_exponent (byte bs i) && is_digit (byte bs (i + 1))) _ _ (run_end classes.Digit bs (i + 1))
        (if is_exponent (byte bs i) && (is_plus_or_minus (byte bs (i + 1)) && is_digit (byte bs (i + 2))) then run_end classes.Digit bs (i + 2) else i)
        (two is_exponent is_digit refl refl i) (run_same classes.Digit refl (i + 1))
        (pick _ (is_exponent (byte bs i) && (is_plus_or_minus (byte bs (i + 1)) && is_digit (byte bs (i + 2)))) _ _ (run_end classes.Digit bs (i + 2)) i
        (both_same _ _ _ _ (one is_exponent refl i) (both_same _ _ _ _ (one is_plus_or_minus refl (i + 1)) (one is_digit refl (i + 2))))
        (run_same classes.Digit refl (i + 2)) refl)

    pub unit_same : (i : ℕ) → unit_end cs i ≡ unit_end bs i
    unit_same i =
        pick _ (byte bs i == sign "%") _ _ (i + 1) (if starts_plainly (byte bs i) then run_end classes.Unit bs i else i) (one (λ b. b == sign "%") refl i) refl
        (pick _ (starts_plainly (byte bs i)) _ _ (run_end classes.Unit bs i) i (one starts_plainly refl i) (run_same classes.Unit refl i) refl)

    pub start_same : (i : ℕ) → unit_start cs i ≡ unit_start bs i
    start_same i =
        ap (λ (k : ℕ). exponent_end cs (fraction_end cs k)) (run_same classes.Digit refl i)
        ∙ ap (exponent_end cs) (fraction_same (run_end classes.Digit bs i)) ∙ exponent_same (fraction_end bs (run_end classes.Digit bs i))

    pub number_same : (i : ℕ) → begins_number cs i ≡ begins_number bs i
    number_same i = either_same _ _ _ _ (one is_digit refl i) (two (λ b. b == sign ".") is_digit refl refl i)

    -- unicode ranges and urls
    pub range_same : (i : ℕ) → begins_range cs i ≡ begins_range bs i
    range_same i = both_same _ _ _ _ (one is_u refl i) (both_same _ _ _ _ (one (λ b. b == sign "+") refl (i + 1)) (one is_range_byte refl (i + 2)))

    pub url_same : (i : ℕ) → begins_url cs i ≡ begins_url bs i
    url_same i =
        both_same _ _ _ _ (one is_u refl i)
        (both_same _ _ _ _ (one is_r refl (i + 1)) (both_same _ _ _ _ (one is_l refl (i + 2)) (one (λ b. b == sign "(") refl (i + 3))))

    url_text_same : (class : Class) → is_even class ≡ true → (i : ℕ) → url_text_end cs class i ≡ url_text_end bs class i
    unfolding url_text_end
    url_text_same class k i =
        ap (run_end class cs) (run_same classes.White refl (i + 4)) ∙ run_same class k (run_end classes.White bs (i + 4))

    pub close_same : (class : Class) → is_even class ≡ true → (i : ℕ) → url_close cs class i ≡ url_close bs class i
    close_same class k i =
        ap (run_end classes.White cs) (url_text_same class k i) ∙ run_same classes.White refl (url_text_end bs class i)
