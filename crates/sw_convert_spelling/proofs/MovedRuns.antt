-- Behind any other text, runs, names, numbers and urls reach as far as in a text by itself.
use Rattle.std.proofs.Common.{◌≡◌, ℕ, zero, suc, ◌+◌, ◌-◌, Bool, true, false, not, ◌&&◌, ◌||◌, if◌then◌else◌, List, ◌∷◌, ◌++◌, length, drop, take, refl, ◌∙◌, ap, arith, get_or, sym, Option, Some, None, length-append}
use Rattle.std.specs.Prelude.{◌==◌, nat_lt, slice_get, slice_range, unwrap_or}
use Rattle.std.proofs.Math.Seq.{drop-append-add}
use Rattle.std.proofs.lemmas.Bool.Decides.{nat_tests}
use Rattle.std.proofs.lemmas.List.{get_or-append-add}
use Rattle.std.proofs.lemmas.Option.{unwrap_or-slice_get}
use Rattle.sw_text_scan.specs.declared.runs.Class.{Class}
use Rattle.sw_text_scan.specs.declared.runs.Class.TheVariants as classes
use Rattle.sw_text_scan.specs.declared.runs.TheConstants.{MOST_HEX_DIGITS}
use Rattle.sw_text_scan.specs.declared.signs.TheConstants.{END, TAB, CARRIAGE_RETURN, LINE_FEED, SPACE}
use Rattle.sw_text_scan.specs.Bytes.{sign, byte, byte_in, is_break, is_white, is_digit, is_hex_digit, starts_plainly, is_name_byte, is_url_byte, is_range_byte, opens_at, ends_loud}
use Rattle.sw_text_scan.specs.Runs.{hex_from, hex_end, white_end, escape_end, text_next, is_word_byte, next, run_from, run_end, starts_at, begins_name}
use Rattle.sw_text_scan.specs.Words.{fraction_end, is_exponent, is_plus_or_minus, exponent_end, unit_end, begins_number, unit_start, is_u, is_r, is_l, begins_range, begins_url, url_text_end, url_close}

pub byte_get : (bs : List ℕ) (i : ℕ) → byte bs i ≡ get_or bs i END
unfolding byte
byte_get bs i = in_is (slice_get bs i) ∙ unwrap_or-slice_get bs i END
  where
    in_is : (o : Option ℕ) → byte_in o ≡ unwrap_or o END
    in_is None = refl
    in_is (Some b) = refl

pub byte_behind : (xs ys : List ℕ) (k : ℕ) → byte (xs ++ ys) (length xs + k) ≡ byte ys k
byte_behind xs ys k = byte_get (xs ++ ys) (length xs + k) ∙ get_or-append-add xs ys k END ∙ sym (byte_get ys k)

pub first_byte : (b : ℕ) (bs : List ℕ) → byte (b ∷ bs) 0 ≡ b
unfolding byte
first_byte b bs = refl

module _ (front bs : List ℕ) where
  abbrev cs : List ℕ
  cs = front ++ bs

  abbrev d : ℕ
  d = length front

  pub plus : (i k : ℕ) → (d + i) + k ≡ d + (i + k)
  plus i k = omega arith

  pub choice : (t u : Bool) (a b x y : ℕ) → t ≡ u → a ≡ d + x → b ≡ d + y → (if t then a else b) ≡ d + (if u then x else y)
  choice true true a b x y e f g = f
  choice false false a b x y e f g = g
  choice true false a b x y e f g = absurd (cc)
  choice false true a b x y e f g = absurd (cc)

  pub either_same : (a b x y : Bool) → a ≡ x → b ≡ y → (a || b) ≡ (x || y)
  either_same a b x y e f = ap (λ (t : Bool). t || b) e ∙ ap (λ (t : Bool). x || t) f

  pub both_same : (a b x y : Bool) → a ≡ x → b ≡ y → (a && b) ≡ (x && y)
  both_same a b x y e f = ap (λ (t : Bool). t && b) e ∙ ap (λ (t : Bool). x && t) f

  -- bytes, and tests of them
  pub at_byte : (i : ℕ) → byte cs (d + i) ≡ byte bs i
  at_byte i = byte_behind front bs i

  pub next_byte : (i k : ℕ) → byte cs ((d + i) + k) ≡ byte bs (i + k)
  next_byte i k = ap (byte cs) (plus i k) ∙ at_byte (i + k)

  pub one : (f : ℕ → Bool) (i : ℕ) → f (byte cs (d + i)) ≡ f (byte bs i)
  one f i = ap f (at_byte i)

  pub later : (f : ℕ → Bool) (i k : ℕ) → f (byte cs ((d + i) + k)) ≡ f (byte bs (i + k))
  later f i k = ap f (next_byte i k)

  pub two : (f g : ℕ → Bool) (i : ℕ) → (f (byte cs (d + i)) && g (byte cs ((d + i) + 1))) ≡ (f (byte bs i) && g (byte bs (i + 1)))
  two f g i = both_same (f (byte cs (d + i))) (g (byte cs ((d + i) + 1))) (f (byte bs i)) (g (byte bs (i + 1))) (one f i) (later g i 1)

  pub opens_moved : (i : ℕ) → opens_at cs (d + i) ≡ opens_at bs i
  opens_moved i = two (λ b. b == sign "#") (λ b. b == sign "{") i

  pub ends_moved : (i : ℕ) → ends_loud cs (d + i) ≡ ends_loud bs i
  ends_moved i = two (λ b. b == sign "*") (λ b. b == sign "/") i

  pub less : (i j : ℕ) → nat_lt (d + i) (d + j) ≡ nat_lt i j
  less i j = go (nat_lt i j) refl
    where
      go : (t : Bool) → nat_lt i j ≡ t → nat_lt (d + i) (d + j) ≡ t
      go true e = grind (arith, nat_tests)
      go false e = grind (arith, nat_tests)

  -- escapes
  hex_moved : (n i : ℕ) → hex_from cs n (d + i) ≡ d + hex_from bs n i
  hex_moved zero i = refl
  hex_moved (suc n) i =
      choice (is_hex_digit (byte cs (d + i))) (is_hex_digit (byte bs i)) (hex_from cs n ((d + i) + 1)) (d + i) (hex_from bs n (i + 1)) i (one is_hex_digit i)
      (ap (hex_from cs n) (plus i 1) ∙ hex_moved n (i + 1)) refl

  hex_end_moved : (i : ℕ) → hex_end cs (d + i) ≡ d + hex_end bs i
  unfolding hex_end
  hex_end_moved i = hex_moved MOST_HEX_DIGITS i

  white_end_moved : (i : ℕ) → white_end cs (d + i) ≡ d + white_end bs i
  white_end_moved i =
      choice _ ((byte bs i == CARRIAGE_RETURN) && (byte bs (i + 1) == LINE_FEED)) _ _ (i + 2) (if is_white (byte bs i) then i + 1 else i)
      (two (λ b. b == CARRIAGE_RETURN) (λ b. b == LINE_FEED) i) (plus i 2)
      (choice _ (is_white (byte bs i)) _ _ (i + 1) i (one is_white i) (plus i 1) refl)

  pub escape_moved : (i : ℕ) → escape_end cs (d + i) ≡ d + escape_end bs i
  unfolding escape_end
  escape_moved i =
      choice _ (not (byte bs i == sign "\\")) _ _ i (if is_hex_digit (byte bs (i + 1)) then white_end bs (hex_end bs (i + 1)) else (if is_break (byte bs (i + 1)) || (byte bs (i + 1) == END) then i else i + 2))
      (one (λ b. not (b == sign "\\")) i) refl
      (choice _ (is_hex_digit (byte bs (i + 1))) _ _ (white_end bs (hex_end bs (i + 1))) (if is_break (byte bs (i + 1)) || (byte bs (i + 1) == END) then i else i + 2)
      (later is_hex_digit i 1) (ap (λ (k : ℕ). white_end cs (hex_end cs k)) (plus i 1) ∙ ap (white_end cs) (hex_end_moved (i + 1)) ∙ white_end_moved (hex_end bs (i + 1)))
      (choice _ (is_break (byte bs (i + 1)) || (byte bs (i + 1) == END)) _ _ i (i + 2) (later (λ b. is_break b || (b == END)) i 1) refl (plus i 2)))

  text_moved : (q i : ℕ) → text_next cs q (d + i) ≡ d + text_next bs q i
  unfolding text_next
  text_moved q i =
      choice _ ((byte bs i == q) || (is_break (byte bs i) || (byte bs i == END))) _ _ i
      (if not (byte bs i == sign "\\") then i + 1 else (if is_break (byte bs (i + 1)) then white_end bs (i + 1) else (if byte bs (i + 1) == END then i + 1 else escape_end bs i)))
      (one (λ b. (b == q) || (is_break b || (b == END))) i) refl
      (choice _ (not (byte bs i == sign "\\")) _ _ (i + 1) (if is_break (byte bs (i + 1)) then white_end bs (i + 1) else (if byte bs (i + 1) == END then i + 1 else escape_end bs i))
      (one (λ b. not (b == sign "\\")) i) (plus i 1)
      (choice _ (is_break (byte bs (i + 1))) _ _ (white_end bs (i + 1)) (if byte bs (i + 1) == END then i + 1 else escape_end bs i)
      (later is_break i 1) (ap (white_end cs) (plus i 1) ∙ white_end_moved (i + 1))
      (choice _ (byte bs (i + 1) == END) _ _ (i + 1) (escape_end bs i) (later (λ b. b == END) i 1) (plus i 1) (escape_moved i))))

  -- what a class takes
  taken : (t u : Bool) (i : ℕ) → t ≡ u → (if t then (d + i) + 1 else d + i) ≡ d + (if u then i + 1 else i)
  taken t u i e = choice t u ((d + i) + 1) (d + i) (i + 1) i e (plus i 1) refl

  stopped : (t u : Bool) (i : ℕ) → t ≡ u → (if t then d + i else (d + i) + 1) ≡ d + (if u then i else i + 1)
  stopped t u i e = choice t u (d + i) ((d + i) + 1) i (i + 1) e refl (plus i 1)

  escaped : (t u : Bool) (i : ℕ) → t ≡ u → (if t then (d + i) + 1 else escape_end cs (d + i)) ≡ d + (if u then i + 1 else escape_end bs i)
  escaped t u i e = choice t u ((d + i) + 1) (escape_end cs (d + i)) (i + 1) (escape_end bs i) e (plus i 1) (escape_moved i)

  closing : (i : ℕ) → (ends_loud cs (d + i) || (opens_at cs (d + i) || (byte cs (d + i) == END))) ≡ (ends_loud bs i || (opens_at bs i || (byte bs i == END)))
  closing i = either_same _ _ _ _ (ends_moved i) (either_same _ _ _ _ (opens_moved i) (one (λ b. b == END) i))

  pub next_moved : (c : Class) (i : ℕ) → next c cs (d + i) ≡ d + next c bs i
  next_moved classes.White i = taken _ _ i (one is_white i)
  next_moved classes.Commas i = taken _ _ i (one (λ b. is_white b || (b == sign ",")) i)
  next_moved classes.Digit i = taken _ _ i (one is_digit i)
  next_moved classes.HexDigit i = taken _ _ i (one is_hex_digit i)
  next_moved classes.Word i = taken _ _ i (one is_word_byte i)
  next_moved classes.Name i = escaped _ _ i (one is_name_byte i)
  next_moved classes.Unit i =
      escaped _ _ i (either_same _ _ _ _ (one starts_plainly i) (either_same _ _ _ _ (one is_digit i) (two (λ b. b == sign "-") starts_plainly i)))
  next_moved (classes.Text q) i = text_moved q i
  next_moved (classes.SheetText q) i =
      choice (opens_at cs (d + i)) (opens_at bs i) (d + i) (text_next cs q (d + i)) i (text_next bs q i) (opens_moved i) refl (text_moved q i)
  next_moved classes.Url i = escaped _ _ i (both_same _ _ _ _ (one is_url_byte i) (ap not (opens_moved i)))
  next_moved classes.UrlInside i = escaped _ _ i (both_same _ _ _ _ (one (λ b. is_url_byte b && not (b == sign "}")) i) (ap not (opens_moved i)))
  next_moved classes.Range i = taken _ _ i (one is_range_byte i)
  next_moved classes.Plain i = stopped _ _ i (one (λ b. (b == sign "\\") || (b == END)) i)
  next_moved classes.Line i = stopped _ _ i (one (λ b. is_break b || (b == END)) i)
  next_moved classes.Comment i = stopped _ _ i (closing i)
  next_moved classes.CssUrl i = escaped _ _ i (one is_url_byte i)
  next_moved classes.CssComment i = stopped _ _ i (either_same _ _ _ _ (ends_moved i) (one (λ b. b == END) i))
  next_moved classes.CommentLine i =
      choice (is_break (byte cs (d + i))) (is_break (byte bs i)) (d + i) _ i _ (one is_break i) refl (stopped _ _ i (closing i))
  next_moved classes.Blank i = taken _ _ i (one (λ b. (b == SPACE) || (b == TAB)) i)
  next_moved classes.Space i = taken _ _ i (one (λ b. b == SPACE) i)
  next_moved classes.Tab i = taken _ _ i (one (λ b. b == TAB) i)

  run_from_moved : (c : Class) (n i : ℕ) → run_from c cs n (d + i) ≡ d + run_from c bs n i
  run_from_moved c zero i = refl
  run_from_moved c (suc n) i =
      choice (nat_lt (d + i) (next c cs (d + i))) (nat_lt i (next c bs i)) (run_from c cs n (next c cs (d + i))) (d + i) (run_from c bs n (next c bs i)) i
      (ap (nat_lt (d + i)) (next_moved c i) ∙ less i (next c bs i))
      (ap (run_from c cs n) (next_moved c i) ∙ run_from_moved c n (next c bs i)) refl

  pub as_many : (i : ℕ) → length cs - (d + i) ≡ length bs - i
  as_many i = let e = length-append front bs in omega (arith, e)

  pub run_moved : (c : Class) (i : ℕ) → run_end c cs (d + i) ≡ d + run_end c bs i
  unfolding run_end
  run_moved c i = ap (λ (n : ℕ). run_from c cs n (d + i)) (as_many i) ∙ run_from_moved c (length bs - i) i

  -- the same some bytes further on
  pub run_later : (c : Class) (i k : ℕ) → run_end c cs ((d + i) + k) ≡ d + run_end c bs (i + k)
  run_later c i k = ap (run_end c cs) (plus i k) ∙ run_moved c (i + k)

  pub starts_moved : (i : ℕ) → starts_at cs (d + i) ≡ starts_at bs i
  starts_moved i = either_same _ _ _ _ (one starts_plainly i) (ap (nat_lt (d + i)) (escape_moved i) ∙ less i (escape_end bs i))

  pub name_moved : (i : ℕ) → begins_name cs (d + i) ≡ begins_name bs i
  unfolding begins_name
  name_moved i =
      either_same _ _ _ _ (starts_moved i)
      (both_same _ _ _ _ (one (λ b. b == sign "-") i)
      (either_same _ _ _ _ (ap (starts_at cs) (plus i 1) ∙ starts_moved (i + 1)) (later (λ b. b == sign "-") i 1)))

  -- numbers
  pub fraction_moved : (i : ℕ) → fraction_end cs (d + i) ≡ d + fraction_end bs i
  fraction_moved i =
      choice _ ((byte bs i == sign ".") && is_digit (byte bs (i + 1))) _ _ (run_end classes.Digit bs (i + 1)) i
      (two (λ b. b == sign ".") is_digit i) (run_later classes.Digit i 1) refl

  pub exponent_moved : (i : ℕ) → exponent_end cs (d + i) ≡ d + exponent_end bs i
  exponent_moved i =
      choice _ (is_exponent (byte bs i) && is_digit (byte bs (i + 1))) _ _ (run_end classes.Digit bs (i + 1))
      (if is_exponent (byte bs i) && (is_plus_or_minus (byte bs (i + 1)) && is_digit (byte bs (i + 2))) then run_end classes.Digit bs (i + 2) else i)
      (two is_exponent is_digit i) (run_later classes.Digit i 1)
      (choice _ (is_exponent (byte bs i) && (is_plus_or_minus (byte bs (i + 1)) && is_digit (byte bs (i + 2)))) _ _ (run_end classes.Digit bs (i + 2)) i
      (both_same _ _ _ _ (one is_exponent i) (both_same _ _ _ _ (later is_plus_or_minus i 1) (later is_digit i 2))) (run_later classes.Digit i 2) refl)

  pub unit_moved : (i : ℕ) → unit_end cs (d + i) ≡ d + unit_end bs i
  unit_moved i =
      choice _ (byte bs i == sign "%") _ _ (i + 1) (if starts_plainly (byte bs i) then run_end classes.Unit bs i else i) (one (λ b. b == sign "%") i) (plus i 1)
      (choice _ (starts_plainly (byte bs i)) _ _ (run_end classes.Unit bs i) i (one starts_plainly i) (run_moved classes.Unit i) refl)

  pub start_moved : (i : ℕ) → unit_start cs (d + i) ≡ d + unit_start bs i
  start_moved i =
      ap (λ (k : ℕ). exponent_end cs (fraction_end cs k)) (run_moved classes.Digit i)
      ∙ ap (exponent_end cs) (fraction_moved (run_end classes.Digit bs i)) ∙ exponent_moved (fraction_end bs (run_end classes.Digit bs i))

  pub number_moved : (i : ℕ) → begins_number cs (d + i) ≡ begins_number bs i
  number_moved i = either_same _ _ _ _ (one is_digit i) (two (λ b. b == sign ".") is_digit i)

  -- unicode ranges and urls
  pub range_moved : (i : ℕ) → begins_range cs (d + i) ≡ begins_range bs i
  range_moved i = both_same _ _ _ _ (one is_u i) (both_same _ _ _ _ (later (λ b. b == sign "+") i 1) (later is_range_byte i 2))

  pub url_moved : (i : ℕ) → begins_url cs (d + i) ≡ begins_url bs i
  url_moved i =
      both_same _ _ _ _ (one is_u i) (both_same _ _ _ _ (later is_r i 1) (both_same _ _ _ _ (later is_l i 2) (later (λ b. b == sign "(") i 3)))

  pub url_text_moved : (class : Class) (i : ℕ) → url_text_end cs class (d + i) ≡ d + url_text_end bs class i
  unfolding url_text_end
  url_text_moved class i = ap (run_end class cs) (run_later classes.White i 4) ∙ run_moved class (run_end classes.White bs (i + 4))

  pub close_moved : (class : Class) (i : ℕ) → url_close cs class (d + i) ≡ d + url_close bs class i
  close_moved class i = ap (run_end classes.White cs) (url_text_moved class i) ∙ run_moved classes.White (url_text_end bs class i)

  pub range_same : (i j : ℕ) → slice_range cs (d + i) (d + j) ≡ slice_range bs i j
  range_same i j =
      ap (λ (n : ℕ). take n (drop (d + i) cs)) (let e : (d + j) - (d + i) ≡ j - i = omega arith in e)
      ∙ ap (take (j - i)) (drop-append-add front bs i)
