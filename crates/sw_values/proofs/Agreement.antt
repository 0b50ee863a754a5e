-- Units fit exactly where their words are equal, and amounts are equal exactly where their words are.
use Rattle.std.proofs.Common.{◌≡◌, ◌+◌, ◌*◌, ◌/◌, ◌%◌, ◌^◌, ◌<◌, ◌⊎◌, inl, inr, ℕ, zero, suc, Bool, true, false, ◌&&◌, if◌then◌else◌, List, [], ◌∷◌, ◌++◌, bytes_eq, refl, sym, ap, ap₂, ◌∙◌, arith, append_assoc, unsigned_abs, ℤ, pos, negsuc, neg_ℤ, ◌*ℤ◌, mul-pos, Ordering, Less, Equal, Greater, nat_cmp, is_gt, is_eq, int_cmp, int_eq}
use Rattle.std.specs.Cmp.Lexicographic.{slice_cmp, nat_list_cmp_total}
use Rattle.std.specs.Ordering.{ordering_reverse}
use Rattle.std.proofs.lemmas.Map.Lookups.{exact_bytes}
use Rattle.std.proofs.lemmas.Bool.{or_cases, or_left, or_right, and_parts, and_from}
use Rattle.std.proofs.lemmas.Bool.Decides.{Decides-int_eq}
use Rattle.std.proofs.lemmas.Slice.Eq.{bytes_eq-Decides}
use Rattle.std.proofs.lemmas.Nat.{div-add-mod'}
use Rattle.std.proofs.lemmas.Int.{unsigned_abs-mul}
use native.Mathlib.Nat.{eq_of_mul-eq-mul_right, div-div-eq-div-mul}
use Rattle.std.specs.Cmp.{both_ways}
use Rattle.sw_fixed.specs.Arithmetic.{is_below_zero}
use Rattle.sw_units.specs.declared.units.UnitNames.{UnitNames}
use Rattle.sw_units.specs.declared.units.UnitNames.TheVariants.{Empty, One, Two}
use Rattle.sw_units.specs.declared.number.Number.{Number}
use Rattle.sw_units.specs.Measures.{count_of, fits}
use Rattle.sw_units.specs.Units.{names_fit, count_all, is_empty}
use Rattle.sw_units.specs.Numbers.{are_equal}
use Rattle.sw_values.specs.Amounts.{framed, sign_word, counted_as, parts_of, parts_all, amount_words, ordered_words, names_words, number_words}
use Rattle.sw_values.proofs.Told.{one_told, head, tail}
use Rattle.sw_values.proofs.Quantities.{counted, parts_positive, count_positive, fit_from_units, units_from_fit, wholes_from_fit}

-- ---- names

reversed : (o : Ordering) → o ≡ ordering_reverse o → o ≡ Equal
reversed Less e = cc
reversed Equal e = refl
reversed Greater e = cc

ordered_by : Ordering → List ℕ → List ℕ → List ℕ
ordered_by o x y = if is_gt o then framed y ++ framed x else framed x ++ framed y

turned : (o : Ordering) (x y : List ℕ) → (o ≡ Equal → x ≡ y) → ordered_by o x y ≡ ordered_by (ordering_reverse o) y x
unfolding ordered_by
turned Less x y h = refl
turned Equal x y h = ap₂ (λ u v. framed u ++ framed v) (h refl) (sym (h refl))
turned Greater x y h = refl

swapped : (x y : List ℕ) → ordered_words x y ≡ ordered_words y x
unfolding ordered_by
swapped x y =
    turned (slice_cmp nat_cmp x y) x y (exact_bytes x y)
    ∙ ap (λ o. ordered_by o y x) (sym (nat_list_cmp_total.antisymm y x))

pub pair_told : (x y z w r s : List ℕ) → (framed x ++ framed y) ++ r ≡ (framed z ++ framed w) ++ s → (x ≡ z) × (y ≡ w) × (r ≡ s)
pair_told x y z w r s e =
    let one : (x ≡ z) × (framed y ++ r ≡ framed w ++ s) =
    one_told x z (framed y ++ r) (framed w ++ s) (sym (append_assoc (framed x) (framed y) r) ∙ e ∙ append_assoc (framed z) (framed w) s) in
    let two : (y ≡ w) × (r ≡ s) = one_told y w r s one.1 in
    (one.0, two.0, two.1)

IsPair : (x y z w : List ℕ) → Type 0
IsPair x y z w = ((x ≡ z) × (y ≡ w)) ⊎ ((x ≡ w) × (y ≡ z))

ordered_told : (b c : Bool) (x y z w r s : List ℕ)
    → (if b then framed y ++ framed x else framed x ++ framed y) ++ r ≡ (if c then framed w ++ framed z else framed z ++ framed w) ++ s
    → IsPair x y z w × (r ≡ s)
unfolding IsPair
ordered_told true true x y z w r s e = let k = pair_told y x w z r s e in (inl (k.1, k.0), k.2)
ordered_told true false x y z w r s e = let k = pair_told y x z w r s e in (inr (k.1, k.0), k.2)
ordered_told false true x y z w r s e = let k = pair_told x y w z r s e in (inr (k.0, k.1), k.2)
ordered_told false false x y z w r s e = let k = pair_told x y z w r s e in (inl (k.0, k.1), k.2)

pub words_from_fit : (u v : UnitNames) → names_fit u v ≡ true → names_words u ≡ names_words v
words_from_fit Empty Empty e = refl
words_from_fit Empty (One b) e = cc
words_from_fit Empty (Two b d) e = cc
words_from_fit (One a) Empty e = cc
words_from_fit (One a) (One b) e = ap (λ u. 1 ∷ framed u) (units_from_fit a b e)
words_from_fit (One a) (Two b d) e = cc
words_from_fit (Two a c) Empty e = cc
words_from_fit (Two a c) (One b) e = cc
words_from_fit (Two a c) (Two b d) e = elim (or_cases (fits a b && fits c d) (fits a d && fits c b) e) [
  | inl h ↦
      let k : (fits a b ≡ true) × (fits c d ≡ true) = and_parts _ _ h in
      ap₂ (λ u v. 2 ∷ ordered_words u v) (units_from_fit a b k.0) (units_from_fit c d k.1)
  | inr h ↦
      let k : (fits a d ≡ true) × (fits c b ≡ true) = and_parts _ _ h in
      ap₂ (λ u v. 2 ∷ ordered_words u v) (units_from_fit a d k.0) (units_from_fit c b k.1)
      ∙ ap (λ ws. 2 ∷ ws) (swapped (counted_as d) (counted_as b))
]

pub fit_from_words : (u v : UnitNames) (r s : List ℕ) → names_words u ++ r ≡ names_words v ++ s → (names_fit u v ≡ true) × (r ≡ s)
unfolding IsPair
fit_from_words Empty Empty r s e = (refl, ap tail e)
fit_from_words Empty (One b) r s e = absurd (omega (arith, ap head e))
fit_from_words Empty (Two b d) r s e = absurd (omega (arith, ap head e))
fit_from_words (One a) Empty r s e = absurd (omega (arith, ap head e))
fit_from_words (One a) (One b) r s e =
    let k : (counted_as a ≡ counted_as b) × (r ≡ s) = one_told (counted_as a) (counted_as b) r s (ap tail e) in
    (fit_from_units a b k.0, k.1)
fit_from_words (One a) (Two b d) r s e = absurd (omega (arith, ap head e))
fit_from_words (Two a c) Empty r s e = absurd (omega (arith, ap head e))
fit_from_words (Two a c) (One b) r s e = absurd (omega (arith, ap head e))
fit_from_words (Two a c) (Two b d) r s e =
    let k : IsPair (counted_as a) (counted_as c) (counted_as b) (counted_as d) × (r ≡ s) =
    ordered_told _ _ (counted_as a) (counted_as c) (counted_as b) (counted_as d) r s (ap tail e) in (
      elim k.0 [
        | inl h ↦ or_left _ _ (and_from _ _ (fit_from_units a b h.0) (fit_from_units c d h.1))
        | inr h ↦ or_right _ _ (and_from _ _ (fit_from_units a d h.0) (fit_from_units c b h.1))
      ],
      k.1,
    )

-- ---- counts

regroup : (a b c d : ℕ) → a * b * (c * d) ≡ a * c * (b * d)
regroup a b c d = grind arith

turn : (a b : ℕ) → a * b ≡ b * a
turn a b = grind arith

-- parts over the line times measures are the same for units that fit
pub wholes : (u v : UnitNames) → names_fit u v ≡ true → parts_all u * count_all u ≡ parts_all v * count_all v
wholes Empty Empty e = refl
wholes Empty (One b) e = cc
wholes Empty (Two b d) e = cc
wholes (One a) Empty e = cc
wholes (One a) (One b) e = counted a ∙ wholes_from_fit a b e ∙ sym (counted b)
wholes (One a) (Two b d) e = cc
wholes (Two a c) Empty e = cc
wholes (Two a c) (One b) e = cc
wholes (Two a c) (Two b d) e =
    regroup (parts_of a) (parts_of c) (count_of a) (count_of c) ∙ ap₂ (λ m n. m * n) (counted a) (counted c)
    ∙ elim (or_cases (fits a b && fits c d) (fits a d && fits c b) e) [
      | inl h ↦
          let k : (fits a b ≡ true) × (fits c d ≡ true) = and_parts _ _ h in
          ap₂ (λ m n. m * n) (wholes_from_fit a b k.0) (wholes_from_fit c d k.1)
      | inr h ↦
          let k : (fits a d ≡ true) × (fits c b ≡ true) = and_parts _ _ h in
          ap₂ (λ m n. m * n) (wholes_from_fit a d k.0) (wholes_from_fit c b k.1) ∙ turn _ _
    ]
    ∙ sym (regroup (parts_of b) (parts_of d) (count_of b) (count_of d) ∙ ap₂ (λ m n. m * n) (counted b) (counted d))

parts_all_positive : (u : UnitNames) → 0 < parts_all u
parts_all_positive Empty = omega arith
parts_all_positive (One a) = parts_positive a
parts_all_positive (Two a c) = mul-pos (parts_positive a) (parts_positive c)

count_all_positive : (u : UnitNames) → 0 < count_all u
count_all_positive Empty = omega arith
count_all_positive (One a) = count_positive a
count_all_positive (Two a c) = mul-pos (count_positive a) (count_positive c)

-- ---- amounts

one_way : (a b px cx ux py cy uy : ℕ) → px * cx ≡ py * cy → a * (cy * ux) ≡ b * (cx * uy) → a * (px * ux) * (px * cx) ≡ b * (py * uy) * (px * cx)
one_way a b px cx ux py cy uy k e =
    let left : a * (px * ux) * (py * cy) ≡ a * (cy * ux) * (px * py) = grind arith in
    let right : b * (py * uy) * (px * cx) ≡ b * (cx * uy) * (px * py) = grind arith in
    ap (λ n. a * (px * ux) * n) k ∙ left ∙ ap (λ n. n * (px * py)) e ∙ sym right

pub amounts_equal : (a b px cx ux py cy uy : ℕ) → px * cx ≡ py * cy → 0 < px * cx → a * (cy * ux) ≡ b * (cx * uy) → a * (px * ux) ≡ b * (py * uy)
amounts_equal a b px cx ux py cy uy k z e = eq_of_mul-eq-mul_right (px * cx) z _ _ (one_way a b px cx ux py cy uy k e)

other_way : (a b px cx ux py cy uy : ℕ) → px * cx ≡ py * cy → a * (px * ux) ≡ b * (py * uy) → a * (cy * ux) * (px * py) ≡ b * (cx * uy) * (px * py)
other_way a b px cx ux py cy uy k e =
    let left : a * (cy * ux) * (px * py) ≡ a * (px * ux) * (py * cy) = grind arith in
    let right : b * (cx * uy) * (px * py) ≡ b * (py * uy) * (px * cx) = grind arith in
    left ∙ ap₂ (λ m n. m * n) e (sym k) ∙ sym right

pub scaled_equal : (a b px cx ux py cy uy : ℕ) → px * cx ≡ py * cy → 0 < px * py → a * (px * ux) ≡ b * (py * uy) → a * (cy * ux) ≡ b * (cx * uy)
scaled_equal a b px cx ux py cy uy k z e = eq_of_mul-eq-mul_right (px * py) z _ _ (other_way a b px cx ux py cy uy k e)

-- ---- signs

neg_below : (n : ℕ) → 0 < n → is_below_zero (neg_ℤ (pos n)) ≡ true
neg_below zero h = absurd (omega (arith, h))
neg_below (suc n) h = refl

scaled_sign : (z : ℤ) (n : ℕ) → 0 < n → is_below_zero (z *ℤ pos n) ≡ is_below_zero z
scaled_sign (pos a) n h = refl
scaled_sign (negsuc a) n h = neg_below (suc a * n) (mul-pos (omega arith) h)

pub parts_make : (x y : ℤ) → is_below_zero x ≡ is_below_zero y → unsigned_abs x ≡ unsigned_abs y → x ≡ y
parts_make (pos a) (pos b) s e = ap pos e
parts_make (pos a) (negsuc b) s e = cc
parts_make (negsuc a) (pos b) s e = cc
parts_make (negsuc a) (negsuc b) s e = let k : a ≡ b = omega (arith, e) in ap negsuc k

pub sign_told : (b c : Bool) → sign_word b ≡ sign_word c → b ≡ c
sign_told true true e = refl
sign_told true false e = absurd (omega (arith, e))
sign_told false true e = absurd (omega (arith, e))
sign_told false false e = refl

-- ---- words of an amount

abbrev pub at : List ℕ → ℕ → ℕ
at [] k = 0
at (x ∷ xs) zero = x
at (x ∷ xs) (suc k) = at xs k

joined : (n m d : ℕ) → n % d ≡ m % d → n / d ≡ m / d → n ≡ m
joined n m d e f = sym (div-add-mod' n d) ∙ ap₂ (λ q r. q * d + r) f e ∙ div-add-mod' m d

two_told : (n m : ℕ) → n % 2 ^ 32 ≡ m % 2 ^ 32 → n / 2 ^ 32 ≡ m / 2 ^ 32 → n ≡ m
two_told n m = joined n m (2 ^ 32)

pub four_told : (n m : ℕ) → n % 2 ^ 32 ≡ m % 2 ^ 32 → n / 2 ^ 32 % 2 ^ 32 ≡ m / 2 ^ 32 % 2 ^ 32 → n / 2 ^ 64 % 2 ^ 32 ≡ m / 2 ^ 64 % 2 ^ 32
    → n / 2 ^ 96 ≡ m / 2 ^ 96 → n ≡ m
four_told n m e0 e1 e2 e3 =
    let a : n / 2 ^ 64 ≡ m / 2 ^ 64 =
    joined (n / 2 ^ 64) (m / 2 ^ 64) (2 ^ 32) e2 (div-div-eq-div-mul n (2 ^ 64) (2 ^ 32) ∙ e3 ∙ sym (div-div-eq-div-mul m (2 ^ 64) (2 ^ 32))) in
    let b : n / 2 ^ 32 ≡ m / 2 ^ 32 =
    joined (n / 2 ^ 32) (m / 2 ^ 32) (2 ^ 32) e1 (div-div-eq-div-mul n (2 ^ 32) (2 ^ 32) ∙ a ∙ sym (div-div-eq-div-mul m (2 ^ 32) (2 ^ 32))) in
    joined n m (2 ^ 32) e0 b

pub amount_told : (n m : ℕ) (r s : List ℕ) → amount_words n ++ r ≡ amount_words m ++ s → (n ≡ m) × (r ≡ s)
amount_told n m r s e = (
  joined n m (2 ^ 64) (two_told _ _ (ap (λ l. at l 0) e) (ap (λ l. at l 1) e))
      (four_told _ _ (ap (λ l. at l 2) e) (ap (λ l. at l 3) e) (ap (λ l. at l 4) e) (ap (λ l. at l 5) e)),
  ap (λ l. tail (tail (tail (tail (tail (tail l)))))) e,
)

-- ---- numbers

mul_one : (z : ℤ) → z *ℤ pos 1 ≡ z
mul_one (pos a) = let k : a * 1 ≡ a = omega arith in ap pos k
mul_one (negsuc a) = let k : suc a * 1 ≡ suc a = omega arith in ap (λ n. neg_ℤ (pos n)) k

level_one : (x y : ℤ) → is_eq (int_cmp x y) ≡ is_eq (int_cmp (x *ℤ pos (1 * 1)) (y *ℤ pos (1 * 1)))
level_one x y = ap₂ (λ u v. is_eq (int_cmp u v)) (sym (mul_one x)) (sym (mul_one y))

-- numbers without units are compared as if they had such that fit
level : (x y : ℤ) (xo xu yo yu : UnitNames)
    → (if is_empty xo && is_empty xu then (is_empty yo && is_empty yu) && is_eq (int_cmp x y)
    else if is_empty yo && is_empty yu then false
    else (names_fit xo yo && names_fit xu yu) && is_eq (int_cmp (x *ℤ pos (count_all yo * count_all xu)) (y *ℤ pos (count_all xo * count_all yu))))
    ≡ ((names_fit xo yo && names_fit xu yu) && is_eq (int_cmp (x *ℤ pos (count_all yo * count_all xu)) (y *ℤ pos (count_all xo * count_all yu))))
level x y Empty Empty Empty Empty = level_one x y
level x y Empty Empty Empty (One b) = refl
level x y Empty Empty Empty (Two b d) = refl
level x y Empty Empty (One b) yu = refl
level x y Empty Empty (Two b d) yu = refl
level x y Empty (One a) Empty Empty = refl
level x y Empty (One a) Empty (One b) = refl
level x y Empty (One a) Empty (Two b d) = refl
level x y Empty (One a) (One b) yu = refl
level x y Empty (One a) (Two b d) yu = refl
level x y Empty (Two a c) Empty Empty = refl
level x y Empty (Two a c) Empty (One b) = refl
level x y Empty (Two a c) Empty (Two b d) = refl
level x y Empty (Two a c) (One b) yu = refl
level x y Empty (Two a c) (Two b d) yu = refl
level x y (One a) xu Empty Empty = refl
level x y (One a) xu Empty (One b) = refl
level x y (One a) xu Empty (Two b d) = refl
level x y (One a) xu (One b) yu = refl
level x y (One a) xu (Two b d) yu = refl
level x y (Two a c) xu Empty Empty = refl
level x y (Two a c) xu Empty (One b) = refl
level x y (Two a c) xu Empty (Two b d) = refl
level x y (Two a c) xu (One b) yu = refl
level x y (Two a c) xu (Two b d) yu = refl

scaled_alike : (x y : ℤ) (n m : ℕ) → 0 < n → 0 < m → x *ℤ pos n ≡ y *ℤ pos m → (is_below_zero x ≡ is_below_zero y) × (unsigned_abs x * n ≡ unsigned_abs y * m)
scaled_alike x y n m h k e = (
  sym (scaled_sign x n h) ∙ ap is_below_zero e ∙ scaled_sign y m k,
  sym (unsigned_abs-mul x (pos n)) ∙ ap unsigned_abs e ∙ unsigned_abs-mul y (pos m),
)

scaled_from : (x y : ℤ) (n m : ℕ) → 0 < n → 0 < m → is_below_zero x ≡ is_below_zero y → unsigned_abs x * n ≡ unsigned_abs y * m → x *ℤ pos n ≡ y *ℤ pos m
scaled_from x y n m h k s e =
    parts_make _ _ (scaled_sign x n h ∙ s ∙ sym (scaled_sign y m k)) (unsigned_abs-mul x (pos n) ∙ e ∙ sym (unsigned_abs-mul y (pos m)))

words_made : (b c : Bool) (n m : ℕ) (o p u v : List ℕ) → b ≡ c → n ≡ m → o ≡ p → u ≡ v
    → (sign_word b ∷ amount_words n) ++ o ++ u ≡ (sign_word c ∷ amount_words m) ++ p ++ v
words_made b c n m o p u v e f g h = ap₂ (λ l k. l ++ k) (ap₂ (λ l k. l ++ k) (ap₂ (λ d k. sign_word d ∷ amount_words k) e f) g) h

forth : (x y : ℤ) (xo xu yo yu : UnitNames)
    → ((names_fit xo yo && names_fit xu yu) && int_eq (x *ℤ pos (count_all yo * count_all xu)) (y *ℤ pos (count_all xo * count_all yu))) ≡ true
    → number_words x (record { over = xo; under = xu }) ≡ number_words y (record { over = yo; under = yu })
unfolding number_words
forth x y xo xu yo yu e =
    let k : ((names_fit xo yo && names_fit xu yu) ≡ true) × (int_eq (x *ℤ pos (count_all yo * count_all xu)) (y *ℤ pos (count_all xo * count_all yu)) ≡ true) =
    and_parts _ _ e in
    let f : (names_fit xo yo ≡ true) × (names_fit xu yu ≡ true) = and_parts _ _ k.0 in
    let a : (is_below_zero x ≡ is_below_zero y) × (unsigned_abs x * (count_all yo * count_all xu) ≡ unsigned_abs y * (count_all xo * count_all yu)) =
    scaled_alike x y _ _ (mul-pos (count_all_positive yo) (count_all_positive xu)) (mul-pos (count_all_positive xo) (count_all_positive yu))
    ((Decides-int_eq _ _).0 k.1) in
    let n : unsigned_abs x * (parts_all xo * count_all xu) ≡ unsigned_abs y * (parts_all yo * count_all yu) =
    amounts_equal (unsigned_abs x) (unsigned_abs y) (parts_all xo) (count_all xo) (count_all xu) (parts_all yo) (count_all yo) (count_all yu)
    (wholes xo yo f.0) (mul-pos (parts_all_positive xo) (count_all_positive xo)) a.1 in
    words_made _ _ _ _ _ _ _ _ a.0 n (words_from_fit xo yo f.0) (words_from_fit xu yu f.1)

back : (x y : ℤ) (xo xu yo yu : UnitNames)
    → number_words x (record { over = xo; under = xu }) ≡ number_words y (record { over = yo; under = yu })
    → ((names_fit xo yo && names_fit xu yu) && int_eq (x *ℤ pos (count_all yo * count_all xu)) (y *ℤ pos (count_all xo * count_all yu))) ≡ true
unfolding number_words
back x y xo xu yo yu e =
    let s : is_below_zero x ≡ is_below_zero y = sign_told _ _ (ap head e) in
    let k : (unsigned_abs x * (parts_all xo * count_all xu) ≡ unsigned_abs y * (parts_all yo * count_all yu)) × (names_words xo ++ names_words xu ≡ names_words yo ++ names_words yu) =
    amount_told _ _ (names_words xo ++ names_words xu) (names_words yo ++ names_words yu) (ap tail e) in
    let f : (names_fit xo yo ≡ true) × (names_words xu ≡ names_words yu) = fit_from_words xo yo _ _ k.1 in
    let g : (names_fit xu yu ≡ true) × ([] ≡ []) = fit_from_words xu yu [] [] (ap (λ l. l ++ []) f.1) in
    let n : unsigned_abs x * (count_all yo * count_all xu) ≡ unsigned_abs y * (count_all xo * count_all yu) =
    scaled_equal (unsigned_abs x) (unsigned_abs y) (parts_all xo) (count_all xo) (count_all xu) (parts_all yo) (count_all yo) (count_all yu)
    (wholes xo yo f.0) (mul-pos (parts_all_positive xo) (parts_all_positive yo)) k.0 in
    and_from _ _ (and_from _ _ f.0 g.0)
    ((Decides-int_eq _ _).1 (scaled_from x y _ _ (mul-pos (count_all_positive yo) (count_all_positive xu)) (mul-pos (count_all_positive xo) (count_all_positive yu)) s n))

pub numbers_agree : (x y : Number) → are_equal x y ≡ bytes_eq (number_words x.value x.units) (number_words y.value y.units)
numbers_agree x y =
    level x.value y.value x.units.over x.units.under y.units.over y.units.under
    ∙ both_ways _ _
    (λ e. (bytes_eq-Decides _ _).1 (forth x.value y.value x.units.over x.units.under y.units.over y.units.under e))
    (λ e. back x.value y.value x.units.over x.units.under y.units.over y.units.under ((bytes_eq-Decides _ _).0 e))
