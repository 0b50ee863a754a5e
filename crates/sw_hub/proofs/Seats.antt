-- One more of those that are attached is looked at.
use Rattle.std.proofs.Common.{◌≡◌, ◌≢◌, ◌-◌, ◌^◌, ℕ, ◌+◌, ◌<◌, ◌≤◌, Bool, true, false, List, [], ◌∷◌, ◌++◌, length, take, drop, get_or, refl, sym, ◌∙◌, ap, arith, append_assoc, length-append, Option, Some, None}
use Rattle.std.specs.Prelude.{◌==◌, nat_lt, slice_get, if◌then◌else◌}
use Rattle.std.proofs.lemmas.Bool.Decides.{nat_tests}
use Rattle.std.proofs.Math.Seq.{drop-length}
use Rattle.std.proofs.Math.ListN.{drop_of_length-le}
use Rattle.std.proofs.lemmas.Option.{slice_get-get_or, slice_get_past}
use Rattle.std.proofs.lemmas.List.{drop_more, take_more}
use Rattle.sw_hub.specs.Hearing.{counted}
use Rattle.sw_hub.specs.Hubs.{first_of, without_first}

if_true : {A : Type 0} (b : Bool) (x y : A) → b ≡ true → (if b then x else y) ≡ x
if_true true x y e = refl
if_true false x y e = absurd (cc)

if_false : {A : Type 0} (b : Bool) (x y : A) → b ≡ false → (if b then x else y) ≡ y
if_false true x y e = absurd (cc)
if_false false x y e = refl

module _ {A : Type 0} (f : A → ℕ) (n : ℕ) where
  behind : (xs : List A) (i : ℕ) (x : A) → i < length xs → x ≡ get_or xs i x → drop i xs ≡ x ∷ drop (i + 1) xs
  behind xs i x lt is = drop_more xs i x lt ∙ ap (λ (y : A). y ∷ drop (i + 1) xs) (sym is)

  front : (xs : List A) (i : ℕ) (x : A) → i < length xs → x ≡ get_or xs i x → take (i + 1) xs ≡ take i xs ++ x ∷ []
  front xs i x lt is = take_more xs i x lt ∙ ap (λ (y : A). take i xs ++ y ∷ []) (sym is)

  other : (x : A) → f x ≢ n → (f x == n) ≡ false
  other x h = grind (arith, nat_tests)

  same : (x : A) → f x ≡ n → (f x == n) ≡ true
  same x h = grind (arith, nat_tests)

  -- another is passed over
  pub passed : (xs : List A) (i : ℕ) (x : A) (whole : Option A) → i < length xs → x ≡ get_or xs i x → f x ≢ n → first_of (drop i xs) f n ≡ whole
      → first_of (drop (i + 1) xs) f n ≡ whole
  passed xs i x whole lt is h e =
      sym (ap (λ (ys : List A). first_of ys f n) (behind xs i x lt is) ∙ if_false (f x == n) (Some x) (first_of (drop (i + 1) xs) f n) (other x h)) ∙ e

  pub stays : (xs : List A) (i : ℕ) (x : A) (whole : List A) → i < length xs → x ≡ get_or xs i x → f x ≢ n → take i xs ++ without_first (drop i xs) f n ≡ whole
      → take (i + 1) xs ++ without_first (drop (i + 1) xs) f n ≡ whole
  stays xs i x whole lt is h e =
      ap (λ (ys : List A). ys ++ without_first (drop (i + 1) xs) f n) (front xs i x lt is)
      ∙ append_assoc (take i xs) (x ∷ []) (without_first (drop (i + 1) xs) f n)
      ∙ ap (λ (ys : List A). take i xs ++ ys)
      (sym (ap (λ (ys : List A). without_first ys f n) (behind xs i x lt is) ∙ if_false (f x == n) (drop (i + 1) xs) (x ∷ without_first (drop (i + 1) xs) f n) (other x h))) ∙ e

  -- the one is found
  pub found : (xs : List A) (i : ℕ) (x : A) (whole : Option A) → i < length xs → x ≡ get_or xs i x → f x ≡ n → first_of (drop i xs) f n ≡ whole → slice_get xs i ≡ whole
  found xs i x whole lt is h e =
      slice_get-get_or xs i x lt ∙ ap (λ (y : A). Some y) (sym is)
      ∙ sym (ap (λ (ys : List A). first_of ys f n) (behind xs i x lt is) ∙ if_true (f x == n) (Some x) (first_of (drop (i + 1) xs) f n) (same x h)) ∙ e

  pub taken_off : (xs : List A) (i : ℕ) (x : A) (whole : List A) → i < length xs → x ≡ get_or xs i x → f x ≡ n → take i xs ++ without_first (drop i xs) f n ≡ whole
      → take i xs ++ drop (i + 1) xs ≡ whole
  taken_off xs i x whole lt is h e =
      ap (λ (ys : List A). take i xs ++ ys)
      (sym (ap (λ (ys : List A). without_first ys f n) (behind xs i x lt is) ∙ if_true (f x == n) (drop (i + 1) xs) (x ∷ without_first (drop (i + 1) xs) f n) (same x h))) ∙ e

  -- none is
  pub lost : (xs : List A) (i : ℕ) (whole : Option A) → i ≡ length xs → first_of (drop i xs) f n ≡ whole → slice_get xs (length xs) ≡ whole
  lost xs i whole at e =
      slice_get_past xs (length xs) (omega arith) ∙ sym (ap (λ (ys : List A). first_of ys f n) (ap (λ (k : ℕ). drop k xs) at ∙ drop-length xs)) ∙ e

  pub all_stay : (xs : List A) (i : ℕ) (whole : List A) → i ≡ length xs → take i xs ++ without_first (drop i xs) f n ≡ whole
      → take (length xs) xs ++ drop (length xs + 1) xs ≡ whole
  all_stay xs i whole at e =
      ap (λ (ys : List A). take (length xs) xs ++ ys) (drop_of_length-le xs (omega arith))
      ∙ sym (ap (λ (k : ℕ). take k xs ++ without_first (drop k xs) f n) at ∙ ap (λ (ys : List A). take (length xs) xs ++ without_first ys f n) (drop-length xs)) ∙ e

-- one more is counted
pub counted_more : (n m : ℕ) → m ≡ n + 1 → m ≤ 2 ^ 64 - 1 → counted (Some n) ≡ Some m
counted_more n m e l = if_true (nat_lt n (2 ^ 64 - 1)) (Some (n + 1)) None (grind (arith, nat_tests)) ∙ ap (λ (k : ℕ). Some k) (sym e)

pub length_more : {A : Type 0} (xs : List A) (x : A) → length (xs ++ x ∷ []) ≡ length xs + 1
length_more xs x = length-append xs (x ∷ [])
