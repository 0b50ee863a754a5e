-- The text of a number is read as the number.
use Rattle.std.proofs.Common.{◌≡◌, ℕ, zero, suc, ◌+◌, ◌-◌, ◌*◌, ◌/◌, ◌%◌, ◌^◌, ◌<◌, ◌≤◌, Bool, true, false, ◌&&◌, ◌||◌, if◌then◌else◌, List, [], ◌∷◌, ◌++◌, length, ℤ, pos, negsuc, Option, Some, None, Ok, decimal, refl, sym, ◌∙◌, ap, arith, lit<, append_assoc, append-nil, zero-mul}
use Rattle.std.specs.Prelude.{◌==◌, nat_le}
use Rattle.std.proofs.lemmas.Bool.Decides.{nat_tests}
use Rattle.std.proofs.lemmas.Nat.{div_below, mod_below, div-mul-add, pow-add}
use Rattle.std.proofs.lemmas.Fmt.{decimal_is_IsNumeral_wide}
use Rattle.std.proofs.lemmas.Str.Parse.{IsDigitsTest, IsNumeralModel, FoldsDigits, numerals_by_fold}
use Rattle.std.proofs.Math.Nat.{one-le-pow, pow-suc, div-add-mod}
use Rattle.sw_fixed.specs.Arithmetic.{scale, limit, signed, nearest_natural}
use Rattle.sw_fixed.specs.Reading.{is_digit, digits_of, after_digits, more_digits, AreDigits, has_minus, after_sign, decimals_of, is_empty, after_decimals, exponent_of, mantissa_of, held_magnitude, value_of, body_value, number_in}
use Rattle.sw_fixed.specs.Text.{decimals, fraction_text, magnitude_text}
use Rattle.sw_fixed.proofs.DigitRuns.{AreDigits-nil, AreDigits_parts, more_digits-nil, more_digits-cons, more_digits-append, more_digits_split}
use Rattle.sw_text_scan.proofs.Bounds.{if_true, if_false}
use Rattle.sw_convert_spelling.specs.Numerals.{begins_exponent, no_exponent, IsReadBack}

-- ---- digits

pub digits_more : (b : ℕ) (text : List ℕ) → 48 ≤ b → b ≤ 57 → AreDigits text → AreDigits (b ∷ text)
unfolding AreDigits
digits_more b text low high rest = (low, high, rest)

are_told : IsDigitsTest AreDigits
unfolding AreDigits
are_told = record { empty = tt; parts = λ c cs all. ((all.0, all.1), all.2); more = λ c cs one all. (one.0, one.1, all) }

folds : FoldsDigits more_digits
unfolding more_digits
folds = record { empty = λ n. refl; more = λ n c cs one. ap (λ (k : ℕ). more_digits k cs) (let e : 10 * n + (c - 48) ≡ n * 10 + (c - 48) = omega arith in e) }

model : IsNumeralModel AreDigits (more_digits 0)
model = numerals_by_fold AreDigits are_told more_digits folds

-- the digits of a whole number
pub record Whole (n : ℕ) : Type 0 where
  pub alone : AreDigits (decimal n)
  pub some : 0 < length (decimal n)
  pub value : more_digits 0 (decimal n) ≡ n

pub whole_digits : (n : ℕ) → n < 10 ^ 64 → Whole n
whole_digits n small =
    let is = decimal_is_IsNumeral_wide n small in
    record { alone = model.from (decimal n) is.0.1; some = is.0.0; value = model.same (decimal n) is.0.1 ∙ is.1 }

-- ---- the digits behind the point

-- digits that write a rest, of so many places
pub record Writes (places rest : ℕ) (digits : List ℕ) : Type 0 where
  pub alone : AreDigits digits
  pub few : length digits ≤ places
  pub value : more_digits 0 digits * 10 ^ (places - length digits) ≡ rest

one_more : (V d p q P v r rest : ℕ) → V ≡ d * p + v → p * q ≡ P → v * q ≡ r → d * P + r ≡ rest → V * q ≡ rest
one_more V d p q P v r rest a b c e = omega (arith, ap (λ n. n * q) a, ap (λ n. d * n) b, c, e)

pub decimals_write : (places rest : ℕ) → rest < 10 ^ places → Writes places rest (decimals places rest)
unfolding decimals
decimals_write zero rest below = record { alone = AreDigits-nil; few = omega arith; value = omega (arith, more_digits-nil 0, below) }
decimals_write (suc places) rest below = go (rest == 0) refl (decimals_write places (rest % 10 ^ places) (mod_below rest (10 ^ places) positive))
  where
    positive : 0 < 10 ^ places
    positive = one-le-pow places 10 (lit< tt)

    nothing : (rest == 0) ≡ true → 0 ≡ rest
    nothing t = grind (arith, nat_tests)

    go : (t : Bool) → (rest == 0) ≡ t → Writes places (rest % 10 ^ places) (decimals places (rest % 10 ^ places))
        → Writes (suc places) rest (if t then [] else (48 + rest / 10 ^ places) ∷ decimals places (rest % 10 ^ places))
    go true t ih = record { alone = AreDigits-nil; few = omega arith; value = ap (λ n. n * 10 ^ (suc places - 0)) (more_digits-nil 0) ∙ zero-mul (10 ^ (suc places - 0)) ∙ nothing t }
    go false t ih =
        let ds = decimals places (rest % 10 ^ places) in
        let d = rest / 10 ^ places in
        let low : d < 10 = div_below rest (10 ^ places) 10 positive (omega (arith, pow-suc 10 places, below)) in
        let few = ih.few in
        let less : suc places - suc (length ds) ≡ places - length ds = omega arith in
        let all : length ds + (places - length ds) ≡ places = omega (arith, few) in
        let digit : 10 * 0 + ((48 + d) - 48) ≡ d = omega arith in
        record {
          alone = digits_more (48 + d) ds (omega arith) (omega (arith, low)) ih.alone;
          few = omega (arith, few);
          value =
              ap (λ k. more_digits 0 ((48 + d) ∷ ds) * 10 ^ k) less
              ∙ one_more (more_digits 0 ((48 + d) ∷ ds)) d (10 ^ length ds) (10 ^ (places - length ds)) (10 ^ places) (more_digits 0 ds) (rest % 10 ^ places) rest
              (more_digits-cons 0 (48 + d) ds ∙ ap (λ k. more_digits k ds) digit ∙ more_digits_split d ds)
              (sym (pow-add 10 (length ds) (places - length ds)) ∙ ap (λ k. 10 ^ k) all)
              ih.value (omega (arith, div-add-mod rest (10 ^ places)));
        }

-- ---- the value

all_of : (V W p q S v r n : ℕ) → V ≡ W * p + v → p * q ≡ S → v * q ≡ r → W * S + r ≡ n → V * 1 * S ≡ n * p
all_of V W p q S v r n a b c e = omega (arith, ap (λ k. k * S) a, ap (λ k. v * k) b, ap (λ k. k * p) c, ap (λ k. k * p) e)

nearest_whole : (n q : ℕ) → 0 < q → nearest_natural (n * q) q ≡ n
nearest_whole n q some = ap (λ k. k / (2 * q)) (let e : 2 * (n * q) + q ≡ n * (2 * q) + q = omega arith in e) ∙ div-mul-add n (2 * q) q (omega (arith, some))

mantissa_back : (n : ℕ) → Whole (n / scale) → mantissa_of (decimal (n / scale)) (decimals 10 (n % scale)) (record { lowers = false; places = 0 }) ≡ n
mantissa_back n w =
    let ds = decimals 10 (n % scale) in
    let written = decimals_write 10 (n % scale) (mod_below n scale (lit< tt)) in
    let few = written.few in
    let all : length ds + (10 - length ds) ≡ 10 = omega (arith, few) in
    ap (λ k. nearest_natural k (10 ^ length ds))
    (all_of (more_digits 0 (decimal (n / scale) ++ ds)) (n / scale) (10 ^ length ds) (10 ^ (10 - length ds)) scale (more_digits 0 ds) (n % scale) n
    (more_digits-append 0 (decimal (n / scale)) ds ∙ ap (λ k. more_digits k ds) w.value ∙ more_digits_split (n / scale) ds)
    (sym (pow-add 10 (length ds) (10 - length ds)) ∙ ap (λ k. 10 ^ k) all)
    written.value (omega (arith, div-add-mod n scale)))
    ∙ nearest_whole n (10 ^ length ds) (one-le-pow (length ds) 10 (lit< tt))

-- ---- what is read

digits_over : (ds rest : List ℕ) → AreDigits ds → (digits_of (ds ++ rest) ≡ ds ++ digits_of rest) × (after_digits (ds ++ rest) ≡ after_digits rest)
unfolding digits_of after_digits
digits_over [] rest all = (refl, refl)
digits_over (d ∷ ds) rest all =
    let p = AreDigits_parts d ds all in
    let more = digits_over ds rest p.rest in
    let is = digit d p.low p.high in
    (if_true (is_digit d) _ _ is ∙ ap (λ (xs : List ℕ). d ∷ xs) more.0, if_true (is_digit d) _ _ is ∙ more.1)
  where
    digit : (d : ℕ) → 48 ≤ d → d ≤ 57 → is_digit d ≡ true
    digit d low high = grind (arith, nat_tests)

-- no sign stands before digits
unsigned : (ds rest : List ℕ) → AreDigits ds → 0 < length ds → (has_minus (ds ++ rest) ≡ false) × (after_sign (ds ++ rest) ≡ ds ++ rest)
unsigned [] rest all some = absurd (omega (arith, some))
unsigned (d ∷ ds) rest all some =
    let p = AreDigits_parts d ds all in (minus d p.low, if_false (d == 45 || d == 43) (ds ++ rest) (d ∷ (ds ++ rest)) (sign d p.low))
  where
    minus : (d : ℕ) → 48 ≤ d → (d == 45) ≡ false
    minus d low = grind (arith, nat_tests)

    sign : (d : ℕ) → 48 ≤ d → (d == 45 || d == 43) ≡ false
    sign d low = grind (arith, nat_tests)

some_digits : (ds : List ℕ) → 0 < length ds → is_empty ds ≡ false
some_digits [] some = absurd (omega (arith, some))
some_digits (d ∷ ds) some = refl

-- what stands behind the whole digits
record Behind (rest : ℕ) (tail : Bool) : Type 0 where
  none : digits_of (fraction_text rest ++ no_exponent tail) ≡ []
  same : after_digits (fraction_text rest ++ no_exponent tail) ≡ fraction_text rest ++ no_exponent tail
  digits : decimals_of (fraction_text rest ++ no_exponent tail) ≡ decimals 10 rest
  exponent : exponent_of (after_decimals (fraction_text rest ++ no_exponent tail)) ≡ exponent_of []

tail_none : (tail : Bool) → (digits_of (no_exponent tail) ≡ []) × (after_digits (no_exponent tail) ≡ no_exponent tail)
unfolding digits_of after_digits
tail_none true = (refl, refl)
tail_none false = (refl, refl)

tail_exponent : (tail : Bool) → exponent_of (no_exponent tail) ≡ exponent_of []
unfolding digits_of after_digits more_digits
tail_exponent true = refl
tail_exponent false = refl

tail_plain : (tail : Bool) → (decimals_of (no_exponent tail) ≡ []) × (after_decimals (no_exponent tail) ≡ no_exponent tail)
unfolding digits_of after_digits
tail_plain true = (refl, refl)
tail_plain false = (refl, refl)

point : (xs : List ℕ) → (digits_of (46 ∷ xs) ≡ []) × (after_digits (46 ∷ xs) ≡ 46 ∷ xs)
unfolding digits_of after_digits
point xs = (refl, refl)

first_decimal : (rest : ℕ) → (rest == 0) ≡ false → is_empty (decimals 10 rest) ≡ false
unfolding decimals
first_decimal rest t = ap is_empty (if_false (rest == 0) [] ((48 + rest / 10 ^ 9) ∷ decimals 9 (rest % 10 ^ 9)) t)

no_decimal : (rest : ℕ) → (rest == 0) ≡ true → [] ≡ decimals 10 rest
unfolding decimals
no_decimal rest t = sym (if_true (rest == 0) [] ((48 + rest / 10 ^ 9) ∷ decimals 9 (rest % 10 ^ 9)) t)

behind : (rest : ℕ) (tail : Bool) → rest < 10 ^ 10 → Behind rest tail
behind rest tail below = go (rest == 0) refl
  where
    ds : List ℕ
    ds = decimals 10 rest

    more : (digits_of (decimals 10 rest ++ no_exponent tail) ≡ decimals 10 rest) × (after_digits (decimals 10 rest ++ no_exponent tail) ≡ no_exponent tail)
    more =
        let over = digits_over (decimals 10 rest) (no_exponent tail) (decimals_write 10 rest below).alone in
        (over.0 ∙ ap (λ (xs : List ℕ). decimals 10 rest ++ xs) (tail_none tail).0 ∙ append-nil (decimals 10 rest), over.1 ∙ (tail_none tail).1)

    kept : (e : Bool) → e ≡ false → (if e then false else true) ≡ true
    kept true f = absurd (cc)
    kept false f = refl

    go : (t : Bool) → (rest == 0) ≡ t → Behind rest tail
    go true t =
        let e : fraction_text rest ++ no_exponent tail ≡ no_exponent tail = ap (λ (xs : List ℕ). xs ++ no_exponent tail) (if_true (rest == 0) [] (46 ∷ decimals 10 rest) t) in
        record {
          none = ap digits_of e ∙ (tail_none tail).0;
          same = ap after_digits e ∙ (tail_none tail).1 ∙ sym e;
          digits = ap decimals_of e ∙ (tail_plain tail).0 ∙ no_decimal rest t;
          exponent = ap (λ (xs : List ℕ). exponent_of (after_decimals xs)) e ∙ ap exponent_of (tail_plain tail).1 ∙ tail_exponent tail;
        }
    go false t =
        let e : fraction_text rest ++ no_exponent tail ≡ 46 ∷ (decimals 10 rest ++ no_exponent tail) = ap (λ (xs : List ℕ). xs ++ no_exponent tail) (if_false (rest == 0) [] (46 ∷ decimals 10 rest) t) in
        let p = point (decimals 10 rest ++ no_exponent tail) in
        let some = kept (is_empty (digits_of (decimals 10 rest ++ no_exponent tail))) (ap is_empty more.0 ∙ first_decimal rest t) in
        record {
          none = ap digits_of e ∙ p.0;
          same = ap after_digits e ∙ p.1 ∙ sym e;
          digits = ap decimals_of e ∙ more.0;
          exponent =
              ap (λ (xs : List ℕ). exponent_of (after_decimals xs)) e
              ∙ ap exponent_of (if_true (if is_empty (digits_of (decimals 10 rest ++ no_exponent tail)) then false else true) (after_digits (decimals 10 rest ++ no_exponent tail)) (46 ∷ (decimals 10 rest ++ no_exponent tail)) some ∙ more.1)
              ∙ tail_exponent tail;
        }

body_back : (negative : Bool) (n : ℕ) (tail : Bool) → n ≤ limit → Whole (n / scale) → body_value negative (decimal (n / scale) ++ (fraction_text (n % scale) ++ no_exponent tail)) ≡ Ok (signed negative n)
body_back negative n tail within w =
    let b = behind (n % scale) tail (mod_below n scale (lit< tt)) in
    let over = digits_over (decimal (n / scale)) (fraction_text (n % scale) ++ no_exponent tail) w.alone in
    let whole : digits_of (decimal (n / scale) ++ (fraction_text (n % scale) ++ no_exponent tail)) ≡ decimal (n / scale) =
    over.0 ∙ ap (λ (xs : List ℕ). decimal (n / scale) ++ xs) b.none ∙ append-nil (decimal (n / scale)) in
    let after : after_digits (decimal (n / scale) ++ (fraction_text (n % scale) ++ no_exponent tail)) ≡ fraction_text (n % scale) ++ no_exponent tail = over.1 ∙ b.same in
    ap (λ (xs : List ℕ). value_of negative xs (decimals_of (after_digits (decimal (n / scale) ++ (fraction_text (n % scale) ++ no_exponent tail))))
    (exponent_of (after_decimals (after_digits (decimal (n / scale) ++ (fraction_text (n % scale) ++ no_exponent tail)))))) whole
    ∙ ap (λ (xs : List ℕ). value_of negative (decimal (n / scale)) (decimals_of xs) (exponent_of (after_decimals xs))) after
    ∙ ap (λ (xs : List ℕ). value_of negative (decimal (n / scale)) xs (exponent_of (after_decimals (fraction_text (n % scale) ++ no_exponent tail)))) b.digits
    ∙ ap (value_of negative (decimal (n / scale)) (decimals 10 (n % scale))) b.exponent
    ∙ given
    ∙ ap (held_magnitude negative) (mantissa_back n w)
    ∙ if_true (nat_le n limit) (Ok (signed negative n)) _ (grind (arith, nat_tests))
  where
    left : (a c : Bool) → a ≡ false → (a && c) ≡ false
    left true c e = absurd (cc)
    left false c e = refl

    given : value_of negative (decimal (n / scale)) (decimals 10 (n % scale)) (exponent_of []) ≡ held_magnitude negative (mantissa_of (decimal (n / scale)) (decimals 10 (n % scale)) (record { lowers = false; places = 0 }))
    given = if_false (is_empty (decimal (n / scale)) && is_empty (decimals 10 (n % scale))) _ _ (left (is_empty (decimal (n / scale))) _ (some_digits (decimal (n / scale)) w.some))

pub whole_small : (n : ℕ) → n ≤ limit → Whole (n / scale)
whole_small n within = whole_digits (n / scale) (div_below n scale (10 ^ 64) (lit< tt) (omega (arith, within)))

magnitude_back : (n : ℕ) (tail : Bool) → n ≤ limit → number_in (magnitude_text n ++ no_exponent tail) ≡ Ok (pos n)
magnitude_back n tail within =
    let w = whole_small n within in
    let u = unsigned (decimal (n / scale)) (fraction_text (n % scale) ++ no_exponent tail) w.alone w.some in
    ap number_in (append_assoc (decimal (n / scale)) (fraction_text (n % scale)) (no_exponent tail))
    ∙ ap (λ (t : Bool). body_value t (after_sign (decimal (n / scale) ++ (fraction_text (n % scale) ++ no_exponent tail)))) u.0
    ∙ ap (body_value false) u.1
    ∙ body_back false n tail within w

negative_back : (n : ℕ) (tail : Bool) → suc n ≤ limit → number_in ((45 ∷ magnitude_text (suc n)) ++ no_exponent tail) ≡ Ok (negsuc n)
negative_back n tail within =
    ap (body_value true) (append_assoc (decimal (suc n / scale)) (fraction_text (suc n % scale)) (no_exponent tail))
    ∙ body_back true (suc n) tail within (whole_small (suc n) within)

pub read_back : (value : Option ℤ) (unit : List ℕ) → IsReadBack value unit
unfolding digits_of after_digits more_digits
read_back (Some (pos n)) unit = magnitude_back n (begins_exponent unit)
read_back (Some (negsuc n)) unit = negative_back n (begins_exponent unit)
read_back None unit = refl
